-- An answer without grants.
use Prim.Native.Nat.{ℕ}
use native.Mathlib.Omega.{arith}
use mathlib.Core.Path.{refl}
use mathlib.Core.List.{List}
use Rattle.splitting.specs.Plain.{Plain}
use Rattle.splitting.specs.Who.{quiet}
use Rattle.replies.specs.declared.Reply.{Reply}
use Rattle.replies.specs.Answers.{answer_of}
use Rattle.words.proofs.Grants.{no_grants}
use Rattle.head.specs.declared.Head.{Head}
use Rattle.head.specs.View.{Shows, Answers}

pub quieted : (h : Head) (ss ts gs : List ℕ) (y : Reply) (s : Plain) → Shows h ss ts s → Answers (record { reply = y; count = 0; head = h }) ss ts gs (quiet (answer_of y) s)
quieted h ss ts gs y s k = record { state = k; answer = refl; grants = no_grants gs; few = omega arith }
