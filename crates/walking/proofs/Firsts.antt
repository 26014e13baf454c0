-- The first line: a start, accepted or refused, or none.
use Rattle.std.specs.Prelude.{Option, None, Some, Result, Ok, Err}
use Prim.Native.Nat.{ℕ, ◌≤◌}
use native.Mathlib.Omega.{arith}
use mathlib.Core.Path.{◌≡◌, refl, ap, sym, subst, ◌∙◌}
use mathlib.Core.Bool.{Bool, true, false, cond}
use mathlib.Core.List.{List}
use lib.ListN.{drop}
use Rattle.rules.specs.Fresh.{Start, fresh, refused_fresh, refuses12}
use Rattle.rules.specs.Steps.{Outcome, quiet}
use Rattle.rules.specs.Steps.Answer.{done, refused}
use Rattle.rules.specs.Runs.{start}
use Rattle.rules.specs.Text.{Line, lines}
use Rattle.rules.specs.Script.{start_of, said}
use Rattle.rules.proofs.Options.{said-not}
use Rattle.state.specs.declared.BatchSemaphore.{BatchSemaphore}
use Rattle.state.specs.View.{Words}
use Rattle.fresh.specs.declared.Refused as F
use Rattle.fresh.specs.Starting.{Gives}
use Rattle.fresh.proofs.Starts.{refused_exactly, accepted-fresh, started_sound}
use Rattle.script.specs.declared.First.{First}
use Rattle.reading.specs.Steps.{line_bytes}
use Rattle.reading.specs.Starts.{start_read, StartAt}
use Rattle.walking.specs.declared.Begun.{Begun}
use Rattle.walking.specs.declared.NotBegun.{NotBegun}
use Rattle.walking.specs.declared.NotBegun.TheVariants.{Refused, Bad, Nothing}
use Rattle.walking.specs.Coming.{StartedBy, Begins}

-- Two starts of which the same is begun: 12 refuses both or none, and then they begin the same state.
begun_by : Bool → Start → Outcome
begun_by b a = cond b (quiet (refused 12) refused_fresh) (quiet done (fresh a))

same-refusal : (a c : Start) (b d : Bool) → begun_by b a ≡ begun_by d c → b ≡ d
unfolding begun_by
same-refusal a c true true e = refl
same-refusal a c true false e = let p : refused 12 ≡ done = ap (λ (o : Outcome). o.answer) e in let z : ◌≡◌ {A = ℕ} 0 1 = cc in absurd (omega arith)
same-refusal a c false true e = let p : done ≡ refused 12 = ap (λ (o : Outcome). o.answer) e in let z : ◌≡◌ {A = ℕ} 0 1 = cc in absurd (omega arith)
same-refusal a c false false e = refl

module _ (a c : Start) (e : start a ≡ start c) where
  refused_alike : refuses12 a ≡ refuses12 c
  unfolding start begun_by
  refused_alike = same-refusal a c (refuses12 a) (refuses12 c) e

  fresh_alike : refuses12 a ≡ false → fresh a ≡ fresh c
  unfolding start
  fresh_alike f =
      let g : refuses12 c ≡ false = sym refused_alike ∙ f in
      let p : (start a).state ≡ (start c).state = ap (λ (o : Outcome). o.state) e in
      rw (f, g) at p

-- a line that says anything has bytes
said-bytes : (f : List ℕ → Option Start) (l : Line) (a : Start) → said f l ≡ Some a → 1 ≤ line_bytes l
said-bytes f l a e = go l.ended refl
  where
    go : (b : Bool) → l.ended ≡ b → 1 ≤ line_bytes l
    go true q = rw q (omega arith)
    go false q = absurd (said-not None a (rw q at e) refl)

-- a start that the first line says
module _ (first : First) (starts : List ℕ) (next : ℕ) (r : Result BatchSemaphore F.Refused) (w : Words) (g : Gives r w (start (start_read first starts))) where
  pub start-refused : (f : F.Refused) → r ≡ Err f → StartedBy first starts next (Err Refused) w
  start-refused f e = sym (refused_exactly r w (start_read first starts) g) ∙ rw e refl

  pub start-accepted : (s : BatchSemaphore) → r ≡ Ok s → StartedBy first starts next (Ok (record { state = s; next = next })) w
  start-accepted s e =
      let h = subst (λ (q : Result BatchSemaphore F.Refused). Gives q w (start (start_read first starts))) e g in (
        refl,
        record {
          accepted = sym (refused_exactly (Ok s) w (start_read first starts) h);
          view = accepted-fresh s w (start_read first starts) h;
          shaped = h.shaped;
          sound = started_sound (Ok s) w (start_read first starts) h;
        },
      )

-- what was read of it, and what came of that
pub begins-start : (script : List ℕ) (first : First) (next : ℕ) (starts : List ℕ) (w : Words) (r : Result Begun NotBegun) → StartAt script first next starts
    → StartedBy first starts next r w → Begins script r w
begins-start script first next starts w (Ok r) p c =
    let b = c.1 in
    let a = start_read first starts in
    let q = p.read in
    record {
      line = p.line;
      shows = rw c.0 p.shows;
      start = q.start;
      says = q.says;
      begins =
          record {
            accepted = sym (refused_alike a q.start q.same) ∙ b.accepted;
            view = b.view ∙ fresh_alike a q.start q.same b.accepted;
            shaped = b.shaped;
            sound = b.sound;
          };
      bytes = c.0 ∙ p.bytes;
      within = rw c.0 p.within;
    }
begins-start script first next starts w (Err Refused) p c =
    let q = p.read in
    record {
      line = p.line;
      behind = lines (drop next script);
      shows = p.shows;
      start = q.start;
      says = q.says;
      refused = sym (refused_alike (start_read first starts) q.start q.same) ∙ c;
      some_bytes = omega (arith, said-bytes start_of p.line q.start q.says, p.within, p.bytes);
    }
begins-start script first next starts w (Err Bad) p c = absurd c
begins-start script first next starts w (Err Nothing) p c = absurd c
