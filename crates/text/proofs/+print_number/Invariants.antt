-- `text::print_number`: the digits of a tenth, which is less, and the last digit behind them.
use Rattle.text.proofs.+print_number.Given as goal

abbrev pub decreases-print_number : goal.decreases-print_number
decreases-print_number l = l.n
