-- NO SECOND ANSWER FITS: how many bytes are printed, and every byte of the buffer.
use Prim.Native.Nat.{ℕ, ◌≤◌, ◌<◌}
use native.Mathlib.Decide.{dec_le, dec_lt}
use native.Mathlib.Omega.{arith}
use mathlib.Core.Path.{◌≡◌, ap, sym, ◌∙◌}
use mathlib.Core.List.{List, ◌++◌}
use lib.ListN.{length, drop, replicate, length-replicate}
use Rattle.bundle_rules.specs.declared.Refusal.TheVariants.{CutShort}
use Rattle.bundle_rules.specs.Bundled.{longest}
use Rattle.bundle_rules.specs.Reading.{Answer, refused, read_as}
use Rattle.bundle_jobs.specs.Printed.{room_for, Behind, PrintsFor}

-- where both are a text, and the buffer behind it
alike : (t old out out' : List ℕ) (r r' : ℕ) → out ≡ t ++ drop r old → r ≡ length t → out' ≡ t ++ drop r' old → r' ≡ length t → (r ≡ r') × (out ≡ out')
alike t old out out' r r' p c q d =
    let e : r ≡ r' = c ∙ sym d in
    (e, p ∙ ap (λ (n : ℕ). t ++ drop n old) e ∙ sym q)

pub printed-once : {text_of : Answer → List ℕ} {kept : List ℕ} {more : ℕ} {old out out' : List ℕ} {r r' : ℕ} → PrintsFor text_of kept more old out r → PrintsFor text_of kept more old out' r' → (r ≡ r') × (out ≡ out')
printed-once {text_of} {kept} {more} {old} {out} {out'} {r} {r'} p q =
    elim (dec_le (room_for kept) (length old)) [
      | no h ↦
          let a = p.short (omega arith) in
          let b = q.short (omega arith) in
          (a.0 ∙ sym b.0, a.1 ∙ sym b.1)
      | yes h ↦
          elim (dec_le longest (length kept)) [
            | yes l ↦ whole h (λ m. l)
            | no l ↦
                elim (dec_lt 0 more) [
                  | yes m ↦
                      let a = p.few h m (omega arith) in
                      let b = q.few h m (omega arith) in
                      alike (text_of (refused CutShort)) old out out' r r' a.0 a.1 b.0 b.1
                  | no m ↦ whole h (λ k. absurd (omega arith))
                ]
          ]
    ]
  where
    whole : room_for kept ≤ length old → (0 < more → longest ≤ length kept) → (r ≡ r') × (out ≡ out')
    whole h f =
        let others : List ℕ = replicate more 0 in
        let b : Behind kept more others = record { number = length-replicate {A = ℕ} more 0; enough = f } in
        alike (text_of (read_as (kept ++ others))) old out out' r r' (p.text h others b) (p.count h others b) (q.text h others b) (q.count h others b)
