-- What a public call owes the rules, from who's outcome and what `times_step` shows: one lemma for all steps.
use Prim.Native.Nat.{ℕ}
use mathlib.Core.Path.{◌≡◌, sym, ap, ◌∙◌}
use mathlib.Core.Bool.{Bool}
use mathlib.Core.List.{List}
use Rattle.rules.specs.declared.Grant.{Grant}
use Rattle.rules.specs.declared.Step.{Step}
use Rattle.rules.specs.Steps.{Answer, effect}
use Rattle.splitting.specs.Plain.{Plain}
use Rattle.splitting.specs.Who as W
use Rattle.splitting.specs.Split.{whole}
use Rattle.splitting.specs.Times.{Known, known, back_of, ticks_in}
use Rattle.splitting.specs.Kept.{Kept, kept_step, times_kept, Ready}
use Rattle.splitting.proofs.KeptSplit.{kept-effect}
use Rattle.batches.specs.declared.Batches.{Batches}
use Rattle.times.specs.View.{kept_of, Shows}

module _ (a : Step) (p : Plain) (w : Kept) (h : Ready a p w) where
  pub whole-step : (stock back : ℕ) (said : Answer) (gs : List Grant) (r : Batches) (sizes rows last makers clocks : List ℕ)
      → stock ≡ p.stock → back ≡ back_of a.act p → said ≡ (W.effect a p).answer → gs ≡ (W.effect a p).grants
      → ((ticks : Bool) → Shows r sizes rows last makers clocks (kept_step a said gs (record { stock = stock; back = back; ticks = ticks }) w))
      → effect a (whole p (times_kept p w)) ≡ record { answer = (W.effect a p).answer; grants = (W.effect a p).grants; state = whole (W.effect a p).state (times_kept (W.effect a p).state (kept_of r sizes rows last makers clocks)) }
  unfolding known
  whole-step stock back said gs r sizes rows last makers clocks es eb ea eg s =
      let k : Known = record { stock = stock; back = back; ticks = ticks_in a.act p } in
      let q : kept_step a said gs k w ≡ kept_step a (W.effect a p).answer (W.effect a p).grants (known a p) w = λ i. kept_step a (ea i) (eg i) (record { stock = es i; back = eb i; ticks = ticks_in a.act p }) w in
      let v : kept_of r sizes rows last makers clocks ≡ kept_step a (W.effect a p).answer (W.effect a p).grants (known a p) w = (s (ticks_in a.act p)).view ∙ q in
      kept-effect a p w h ∙ ap (λ (u : Kept). record { answer = (W.effect a p).answer; grants = (W.effect a p).grants; state = whole (W.effect a p).state (times_kept (W.effect a p).state u) }) (sym v)
