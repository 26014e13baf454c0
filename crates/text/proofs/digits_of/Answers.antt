use borrow.Author.Rules.{rules}
use Rattle.text.proofs.Numbers.{stop_other, stop_large, one_more_lem, all_read}
use Rattle.text.proofs.digits_of.Goals as goal

pub returns-then-not-is_ascii_digit : goal.returns-then-not-is_ascii_digit
returns-then-not-is_ascii_digit c = search (stop_other, rules)

pub returns-in_err-checked_mul : goal.returns-in_err-checked_mul
returns-in_err-checked_mul c = search (stop_large, rules)

pub returns-in_err-n : goal.returns-in_err-n
returns-in_err-n c = search (stop_large, rules)

pub loop-b-preserved : goal.loop-b-preserved
loop-b-preserved c = search (one_more_lem, rules)

pub returns : goal.returns
returns c = search (all_read, rules)
