-- A release and a drop put together from their parts.
use Rattle.std.specs.Prelude.{None}
use Prim.Native.Nat.{ℕ, ◌+◌}
use native.Mathlib.Omega.{arith}
use mathlib.Core.Path.{◌≡◌, refl, sym, ap, subst, ◌∙◌}
use mathlib.Core.Bool.{Bool, true, false, cond}
use mathlib.Core.List.{List}
use borrow.Author.Tests.{eq-eqb, ne_eqb}
use lib.Dec.{eqb}
use lib.ListN.{length, set}
use Rattle.rules.specs.declared.Slot.{Slot}
use Rattle.rules.specs.declared.Dropping.{Dropping}
use Rattle.rules.specs.declared.Dropping.TheVariants.{Leaving, Unreserving, Returning, Nothing}
use Rattle.rules.specs.Steps.Answer.{done}
use Rattle.rules.specs.Refusals.{returned}
use Rattle.splitting.specs.Plain.{Plain, strict, asked_at, with_stock, with_reservation}
use Rattle.splitting.specs.Who.{Granting as GrantingRule, scan, wake_unfair, ungranted, scan_or_wake, release, drop_queued, drop_work, free, quiet, doing}
use Rattle.replies.specs.declared.Reply.TheVariants.{Done}
use Rattle.words.specs.View.{slots_of, SlotsShow}
use Rattle.words.proofs.Grants.{no_grants}
use Rattle.head.specs.declared.Head.{Head}
use Rattle.head.specs.declared.Granting.{Granting}
use Rattle.head.specs.declared.Answered.{Answered}
use Rattle.head.specs.View.{plain_of, Shaped, Shows, Grants, Answers}
use Rattle.head.proofs.Shown.{slots_shown}
use Rattle.doing.specs.Effects.{AnyGrants, Ungranted, MayDrop}
use Rattle.doing.proofs.Quiet.{quieted}

-- nothing granted on the way
pub ungranted_so : (h : Head) (ss ts gs : List ℕ) (s : Plain) → Shows h ss ts s → Grants (record { head = h; count = 0 }) ss ts gs (ungranted s)
ungranted_so h ss ts gs s k = record { state = k; grants = no_grants gs; few = omega arith }

pub ungranted_any : (h : Head) (ss ts : List ℕ) (s : Plain) → Shows h ss ts s → Ungranted (record { head = h; count = 0 }) ss ts s
ungranted_any h ss ts s k gs = ungranted_so h ss ts gs s k

pub done_any : (h : Head) (ss ts : List ℕ) (s : Plain) → Shows h ss ts s → AnyGrants (record { reply = Done; count = 0; head = h }) ss ts (quiet done s)
done_any h ss ts s k gs = quieted h ss ts gs Done s k

-- as it stands
pub stands_so : (h : Head) (ss ts gs : List ℕ) → Shaped h ss ts → Grants (record { head = h; count = 0 }) ss ts gs (ungranted (plain_of h ss ts))
stands_so h ss ts gs s = ungranted_so h ss ts gs (plain_of h ss ts) (record { shaped = s; view = refl })

-- ---- a release
module _ (s : Plain) (r : Granting) (ss ts gs : List ℕ) where
  module _ (b : Bool) (e : b ≡ strict s) where
    pub scans : b ≡ true → Grants r ss ts gs (scan s) → Grants r ss ts gs (scan_or_wake s)
    scans f g = subst (λ (c : Bool). Grants r ss ts gs (cond c (scan s) (ungranted (wake_unfair s)))) (sym f ∙ e) g

    pub wakes : b ≡ false → Grants r ss ts gs (ungranted (wake_unfair s)) → Grants r ss ts gs (scan_or_wake s)
    wakes f g = subst (λ (c : Bool). Grants r ss ts gs (cond c (scan s) (ungranted (wake_unfair s)))) (sym f ∙ e) g

  module _ (n : ℕ) where
    by_count : (b : Bool) → b ≡ eqb n 0 → Grants r ss ts gs (cond b (ungranted s) (scan_or_wake (with_stock (s.stock + n) s))) → Grants r ss ts gs (release n s)
    unfolding release
    by_count b e g = subst (λ (c : Bool). Grants r ss ts gs (cond c (ungranted s) (scan_or_wake (with_stock (s.stock + n) s)))) e g

    pub releases_none : n ≡ 0 → Grants r ss ts gs (ungranted s) → Grants r ss ts gs (release n s)
    releases_none z g = by_count true (sym (eq-eqb n 0 z)) g

    pub releases : (n ≡ 0 → ⊥) → Grants r ss ts gs (scan_or_wake (with_stock (s.stock + n) s)) → Grants r ss ts gs (release n s)
    releases z g = by_count false (sym (ne_eqb n 0 z)) g

-- ---- a drop, by its decision
module _ (d : Dropping) (n : ℕ) (x : Slot) (s : Plain) (m : MayDrop d n x s) (r : Granting) (ss ts gs : List ℕ) where
  as_decided : (k : Dropping) → d ≡ k → Grants r ss ts gs (drop_work k x s) → Grants r ss ts gs (drop_work d x s)
  as_decided k e g = subst (λ (c : Dropping). Grants r ss ts gs (drop_work c x s)) (sym e) g

  pub leaves : d ≡ Leaving → Grants r ss ts gs (drop_queued x s) → Grants r ss ts gs (drop_work d x s)
  unfolding drop_work
  leaves e g = as_decided Leaving e g

  pub unreserves : d ≡ Unreserving → Ungranted r ss ts (wake_unfair (with_reservation None s)) → Grants r ss ts gs (drop_work d x s)
  unfolding drop_work
  unreserves e g = as_decided Unreserving e (g gs)

  pub gives_back_lem : d ≡ Returning → Grants r ss ts gs (release n s) → Grants r ss ts gs (drop_work d x s)
  unfolding drop_work
  gives_back_lem e g =
      as_decided Returning e
      (subst (λ (k : ℕ). Grants r ss ts gs (release k s)) (m.count ∙ ap (λ (c : Dropping). returned c (asked_at x s)) e) g)

  pub rests : d ≡ Nothing → Grants r ss ts gs (ungranted s) → Grants r ss ts gs (drop_work d x s)
  unfolding drop_work
  rests e g = as_decided Nothing e g

-- and the slot is free
pub dropped : (r : Granting) (ss ts gs after : List ℕ) (x : Slot) (g : GrantingRule) → Grants r ss ts gs g
    → SlotsShow after ss (set (slots_of ss) x.0 None) → length after ≡ length ss
    → Grants r after ts gs (record { grants = g.grants; state = free x g.state })
dropped r ss ts gs after x g k f n =
    let v = slots_shown r.head ss ts k.state.shaped after (set (slots_of ss) x.0 None) f n in
    record {
      state = record { shaped = v.shaped; view = v.view ∙ ap (λ (a : Plain). free x a) k.state.view };
      grants = k.grants;
      few = k.few;
    }

-- done, with what was granted
pub done_with : (g : Granting) (r : Answered) (ss ts gs : List ℕ) (o : GrantingRule) → r ≡ record { reply = Done; count = g.count; head = g.head } → Grants g ss ts gs o → Answers r ss ts gs (doing o)
done_with g r ss ts gs o e k =
    subst (λ (r : Answered). Answers r ss ts gs (doing o)) (sym e) (record { state = k.state; answer = refl; grants = k.grants; few = k.few })
