-- What is planned, from what each arm has decided.
use Rattle.std.specs.Prelude.{None, Result}
use Prim.Native.Nat.{ℕ, ◌-◌}
use mathlib.Core.Path.{◌≡◌, refl, ap, ◌∙◌}
use mathlib.Core.Bool.{Bool, true, false}
use mathlib.Core.List.{List, [], ◌∷◌}
use lib.Dec.{leb, ltb}
use lib.ListN.{get_or}
use Rattle.rules.specs.declared.Slot.{Slot}
use Rattle.rules.specs.declared.Ask.{Ask}
use Rattle.rules.specs.declared.Priority.{Priority}
use Rattle.rules.specs.declared.Priority.TheVariants.{Front}
use Rattle.rules.specs.declared.Polling.{Polling}
use Rattle.rules.specs.declared.Dropping.{Dropping}
use Rattle.rules.specs.declared.Act.{Act}
use Rattle.rules.specs.declared.Act.TheVariants.{AcquireReserving, Upgrade, Poll, TryUpgrade, Release, Drop}
use Rattle.rules.specs.Sizes.{slot_count}
use Rattle.rules.specs.Request.{plain_ask, reserving_ask}
use Rattle.rules.specs.State.{is_strict}
use Rattle.rules.specs.Polling.{takes_in}
use Rattle.rules.specs.Steps.{upgrade_ask}
use Rattle.rules.specs.Refusals.{Ground, ◌if◌, bad_reserving, bad_upgrade, returned}
use Rattle.splitting.specs.Who.{lowest_free, direct, polling, dropping, gives_back, grounds}
use Rattle.replies.specs.declared.Refusal.{Refusal}
use Rattle.records.specs.declared.Request.{Request}
use Rattle.records.specs.View.{Stands}
use Rattle.words.specs.View.{slots_of}
use Rattle.head.specs.declared.Head.{Head}
use Rattle.head.specs.View.{plain_of}
use Rattle.choosing.specs.declared.Choice.TheVariants.{Makes, Polls, Tries, Releases, Drops}
use Rattle.choosing.specs.Choice.{choice_of}
use Rattle.planning.specs.declared.Plan.{Plan}
use Rattle.planning.specs.Plans.{Says, Plans, Planned}

-- ---- a request is made, in the slot that is free, with grounds that look at it
module _ (r : Plan) (c : Result (Unit {0}) Refusal) (i : ℕ) (a : Ask) (f : (gs : List Ground) → Says c gs → Plans r gs 0 false (Makes i a)) where
  makes_at : (k : ℕ) (gs : ℕ → List Ground) (b : Ask) → i ≡ k → a ≡ b → Says c (gs i) → Plans r (gs k) 0 false (Makes k b)
  makes_at k gs b e ea s = rw (← e, ← ea) (f (gs i) s)

  pub plain-planned : (k : ℕ) (p : Priority) (n : ℕ) → i ≡ k → a ≡ plain_ask p n → Says c (8 if leb slot_count i ∷ []) → Plans r (8 if leb slot_count k ∷ []) 0 false (Makes k (plain_ask p n))
  plain-planned k p n e ea s = makes_at k (λ (j : ℕ). 8 if leb slot_count j ∷ []) (plain_ask p n) e ea s

  module _ (h : Head) (ss ts : List ℕ) (e : i ≡ lowest_free (slots_of ss)) where
    pub reserving-planned : (least n : ℕ) → a ≡ reserving_ask least n → Says c (6 if is_strict h.fairness ∷ 7 if bad_reserving least n ∷ 8 if leb slot_count i ∷ [])
        → Planned r (AcquireReserving least n) (plain_of h ss ts)
    unfolding grounds choice_of
    reserving-planned least n ea s =
        makes_at (lowest_free (slots_of ss)) (λ (j : ℕ). 6 if is_strict h.fairness ∷ 7 if bad_reserving least n ∷ 8 if leb slot_count j ∷ []) (reserving_ask least n) e ea s

    pub upgrade_planned : (held wanted n : ℕ) (b : Bool) → n ≡ wanted - held → b ≡ is_strict h.fairness → a ≡ upgrade_ask b n → Says c (7 if bad_upgrade held wanted ∷ 8 if leb slot_count i ∷ [])
        → Planned r (Upgrade held wanted) (plain_of h ss ts)
    unfolding grounds choice_of
    upgrade_planned held wanted n b en eb ea s =
        let asks : a ≡ upgrade_ask (is_strict h.fairness) (wanted - held) = ea ∙ (λ j. upgrade_ask (eb j) (en j)) in
        makes_at (lowest_free (slots_of ss)) (λ (j : ℕ). 7 if bad_upgrade held wanted ∷ 8 if leb slot_count j ∷ []) (upgrade_ask (is_strict h.fairness) (wanted - held)) e asks s

-- ---- a release
pub release-planned : (h : Head) (ss ts : List ℕ) (c : Result (Unit {0}) Refusal) (n : ℕ) → ((ss ts : List ℕ) → Says c (grounds (Release n) (plain_of h ss ts)))
    → Planned (record { check = c; back = n; ticks = ltb 0 n; choice = Releases n }) (Release n) (plain_of h ss ts)
unfolding choice_of
release-planned h ss ts c n s = record { check = (s ss ts).first; back = refl; ticks = refl; choice = refl }

-- ---- the request that is read at the slot: a poll, and a drop
module _ (h : Head) (ss ts : List ℕ) (x : Slot) (r : Request) (e : Stands r (get_or (slots_of ss) x.0 None)) (c : Result (Unit {0}) Refusal) where
  pub poll-planned : (q : Polling) (b : Bool) → ((ts : List ℕ) → q ≡ polling x (plain_of h ss ts)) → b ≡ takes_in q
      → ((x : Slot) (ss ts : List ℕ) → Stands r (get_or (slots_of ss) x.0 None) → Says c (grounds (Poll x) (plain_of h ss ts)))
      → Planned (record { check = c; back = 0; ticks = b; choice = Polls x r.ask.asked q }) (Poll x) (plain_of h ss ts)
  unfolding choice_of
  poll-planned q b eq eb s =
      record {
        check = (s x ss ts e).first;
        back = refl;
        ticks = eb ∙ ap (λ (k : Polling). takes_in k) (eq ts);
        choice = λ i. Polls x (e.view i).ask.asked (eq ts i);
      }

  pub drop-planned : (d : Dropping) (n : ℕ) → ((ss ts : List ℕ) → Stands r (get_or (slots_of ss) x.0 None) → d ≡ dropping x (plain_of h ss ts)) → n ≡ returned d r.ask.asked
      → ((x : Slot) (ss ts : List ℕ) → Stands r (get_or (slots_of ss) x.0 None) → n ≡ gives_back x (plain_of h ss ts) → Says c (grounds (Drop x) (plain_of h ss ts)))
      → Planned (record { check = c; back = n; ticks = ltb 0 n; choice = Drops x n d }) (Drop x) (plain_of h ss ts)
  unfolding choice_of
  drop-planned d n ed en s =
      let back : n ≡ gives_back x (plain_of h ss ts) = en ∙ (λ i. returned (ed ss ts e i) (e.view i).ask.asked) in
      record {
        check = (s x ss ts e back).first;
        back = back;
        ticks = ap (λ (k : ℕ). ltb 0 k) back;
        choice = λ i. Drops x (back i) (ed ss ts e i);
      }

-- ---- by the act
module _ (h : Head) (ss ts : List ℕ) (act : Act) (r : Plan) where
  pub of_act : (d : Act) → act ≡ d → Planned r d (plain_of h ss ts) → Planned r act (plain_of h ss ts)
  of_act d e s = rw e s

  pub of_try_upgrade : (held wanted n : ℕ) → act ≡ TryUpgrade held wanted → n ≡ wanted - held
      → Plans r (grounds (TryUpgrade held wanted) (plain_of h ss ts)) 0 true (Tries n (direct Front n (plain_of h ss ts))) → Planned r act (plain_of h ss ts)
  unfolding choice_of
  of_try_upgrade held wanted n e en s = rw (e, ← en) s
