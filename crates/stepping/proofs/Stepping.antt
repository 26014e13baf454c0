-- Each way out of a step that counts on a fit state: refused, or taken.
use Rattle.std.specs.Prelude.{Option, None, Some, Result, Ok, Err}
use Rattle.std.proofs.lemmas.Option.{none-some}
use Prim.Native.Nat.{ℕ}
use mathlib.Core.Path.{◌≡◌, refl, sym, ap, ◌∙◌}
use mathlib.Core.List.{List}
use native.Mathlib.Omega.{arith}
use Rattle.rules.specs.declared.Step.{Step}
use Rattle.rules.specs.Steps.Answer.{refused}
use Rattle.rules.specs.Refusals.{first, refusal}
use Rattle.splitting.specs.Plain.{Plain}
use Rattle.splitting.specs.Who as W
use Rattle.splitting.specs.Times.{known}
use Rattle.splitting.specs.Kept.{Kept}
use Rattle.splitting.specs.Parts.{or_else}
use Rattle.replies.specs.declared.Refusal.{Refusal}
use Rattle.replies.specs.declared.Reply.TheVariants.{Refused}
use Rattle.replies.specs.Answers.{number_of, given}
use Rattle.planning.specs.declared.Plan.{Plan}
use Rattle.planning.specs.Plans.{actor_grounds, Planned}
use Rattle.planning.proofs.Composing.{first-after}
use Rattle.times.specs.View.{refusal_kept}
use Rattle.state.specs.declared.BatchSemaphore.{BatchSemaphore}
use Rattle.state.specs.declared.Stepped.{Stepped}
use Rattle.state.specs.View.{Words, plain_in, kept_in, view_of, Fit}
use Rattle.stepping.specs.Contract.{Checks, Taken, StepsOn}
use Rattle.stepping.proofs.Composed.{refusal_both}

one_number : {m n : ℕ} → ◌≡◌ {A = Option ℕ} (Some m) (Some n) → m ≡ n
one_number e = cc

or_else_again : (a b d : Option ℕ) → or_else a (or_else b d) ≡ or_else (or_else a b) d
or_else_again None b d = refl
or_else_again (Some n) b d = refl

module _ (s : BatchSemaphore) (w : Words) (gs : List ℕ) (f : Fit s w gs) (a : Step) where
  abbrev p : Plain
  p = plain_in s w

  abbrev k : Kept
  k = kept_in s w

  -- what the check says is the rules' first refusal
  pub checked_whole : (c : Result (Unit {0}) Refusal) (l : Plan) → Checks c s w.tasks w.clocks a.actor l → Planned l a.act p → given c ≡ refusal a (view_of s w)
  unfolding W.refusal known
  checked_whole c l h q =
      h w refl refl
      ∙ or_else_again (first (actor_grounds a.actor p)) (given l.check) _
      ∙ (λ i. or_else (or_else (first (actor_grounds a.actor p)) (q.check i)) (refusal_kept a.actor (record { stock = s.head.stock; back = q.back i; ticks = q.ticks i }) k))
      ∙ ap (λ (o : Option ℕ). or_else o (refusal_kept a.actor (known a p) k)) (sym (first-after (actor_grounds a.actor p) (W.grounds a.act p)))
      ∙ sym (refusal_both s w gs f a)

  module _ (c : Result (Unit {0}) Refusal) (says : given c ≡ refusal a (view_of s w)) where
    pub refused_steps : (why : Refusal) → c ≡ Err why → StepsOn s w gs a (record { reply = Refused why; count = 0; state = s }) w gs
    refused_steps why e =
        let met : Some (number_of why) ≡ refusal a (view_of s w) = ap given (sym e) ∙ says in
        record {
          refused = λ m n. record { answer = ap (λ (k : ℕ). refused k) (one_number (met ∙ n)); count = refl; state = refl; words = refl; grants = refl };
          accepted = λ n. absurd (none-some (number_of why) (sym (met ∙ n)));
          fit = f;
          few = omega arith;
        }

    pub no_refusal : c ≡ Ok (record {}) → refusal a (view_of s w) ≡ None
    no_refusal e = sym says ∙ ap given e

    pub taken_steps : (r : Stepped) (v : Words) (hs : List ℕ) → c ≡ Ok (record {}) → Taken s w a r v hs → StepsOn s w gs a r v hs
    taken_steps r v hs n q =
        record {
          refused = λ m e. absurd (none-some m (sym (no_refusal n) ∙ e));
          accepted = λ e. q.outcome;
          fit = q.fit;
          few = q.few;
        }
