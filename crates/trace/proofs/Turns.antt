-- From line to line: what a line came to printed, and what is left to print.
use Rattle.std.specs.Prelude.{None, Some}
use Prim.Native.Nat.{ℕ, ◌+◌, ◌≤◌}
use mathlib.Core.Path.{◌≡◌, refl, ap, sym, ◌∙◌}
use mathlib.Core.Bool.{Bool, true, false, cond}
use mathlib.Core.List.{List, [], ◌∷◌, ◌++◌, append_assoc, append-nil}
use lib.ListN.{length, drop}
use Rattle.rules.specs.Sizes.{slot_count}
use Rattle.rules.specs.State.{State}
use Rattle.rules.specs.Text.{lines}
use Rattle.rules.specs.Script.{outcome_text, trace}
use Rattle.rules.proofs.Scripts.{trace_done}
use Rattle.splitting.specs.Split.{forget, whole}
use Rattle.text.specs.Writing.{Appended}
use Rattle.text.proofs.Buffer.{appended_none, appended_length, appended_then}
use Rattle.replies.specs.declared.Reply.{Reply}
use Rattle.replies.specs.Answers.{answer_of}
use Rattle.words.specs.View.{grants_of}
use Rattle.head.specs.View.{plain_of}
use Rattle.state.specs.declared.BatchSemaphore.{BatchSemaphore}
use Rattle.state.specs.declared.Stepped.{Stepped}
use Rattle.state.specs.View.{Words, words, view_of, outcome_of}
use Rattle.walking.specs.declared.Walked.{Walked}
use Rattle.walking.specs.declared.WalkedLent.{WalkedLent}
use Rattle.walking.specs.Coming.{text_of, came, walked, Comes}
use Rattle.walking.proofs.Printed.{traced}
use Rattle.printing.specs.declared.Counts.{Counts}
use Rattle.printing.specs.Printed.{line_text, ShownBy}
use Rattle.printing.proofs.Chain.{Room, pair, here, onward}
use Rattle.printing.proofs.Lines.{outcome-line}
use Rattle.trace.specs.Running.{Onward}

-- what a head shows, its state shows
shown : (c : Counts) (s : BatchSemaphore) (w : Words) → ((slots tasks : List ℕ) → ShownBy c (plain_of s.head slots tasks)) → ShownBy c (forget (view_of s w))
unfolding whole
shown c s w h = let p = h w.slots w.tasks in record { available = p.available; stock = p.stock; closed = p.closed; queued = p.queued }

-- what is shown of an outcome is in the head, the answer and the grants
pub same_text : (r : Stepped) (gs : List ℕ) (w v : Words) → outcome_text (outcome_of r w gs) ≡ outcome_text (outcome_of r v gs)
unfolding outcome_text whole
same_text r gs w v = refl

came-text : (r : Walked) (gs : List ℕ) (w v : Words) → text_of (came r w gs) ≡ text_of (came r v gs)
came-text r gs w v = go r.bad
  where
    go : (b : Bool) → text_of (cond b None (Some (outcome_of r.out w gs))) ≡ text_of (cond b None (Some (outcome_of r.out v gs)))
    go true = refl
    go false = same_text r.out gs w v

-- the line of a step
module _ (r : Stepped) (c : Counts) (gs old : List ℕ) (n : ℕ) (h : (slots tasks : List ℕ) → ShownBy c (plain_of r.state.head slots tasks)) where
  line_is : (w : Words) → line_text (answer_of r.reply) c (grants_of r.count gs) ≡ outcome_text (outcome_of r w gs)
  line_is w = outcome-line (outcome_of r w gs) c (shown c r.state w h)

  pub step_room : ((w : Words) → n + length (outcome_text (outcome_of r w gs)) ≤ length old) → n + length (line_text (answer_of r.reply) c (grants_of r.count gs)) ≤ length old
  step_room f = let w = words [] [] [] [] [] [] [] in rw (line_is w) (f w)

  pub step-printed : (new : List ℕ) (e : ℕ) → Appended old n (line_text (answer_of r.reply) c (grants_of r.count gs)) new e → (w : Words) → Appended old n (outcome_text (outcome_of r w gs)) new e
  step-printed new e p w = rw (line_is w) at p

-- before the first turn
pub onward_none : {script : List ℕ} {at : ℕ} {s : State} {old : List ℕ} {n : ℕ} → n + length (trace s (lines (drop at script))) ≤ length old → Onward script at s old n at s old n
onward_none {old = old} {n = n} fits = record { text = []; printed = appended_none old n; fits = fits; left = refl }

-- from the lines printed so far
module _ {script : List ℕ} {from : ℕ} {first : State} {old : List ℕ} {start at : ℕ} {s : State} {out : List ℕ} {n : ℕ} (o : Onward script from first old start at s out n) where
  so_far : Room old start (o.text ∷ trace s (lines (drop at script)) ∷ [])
  so_far = pair o.text (trace s (lines (drop at script))) (rw o.left o.fits)

  pub onward_length : length out ≡ length old
  onward_length = appended_length o.printed (here so_far)

  module _ {r : Walked} {w : Words} {gs : List ℕ} (c : Comes script at s r w gs) where
    -- there is room for the next line
    next-room : Room out n (text_of (came r w gs) ∷ trace (view_of r.out.state w) (lines (drop r.next script)) ∷ [])
    next-room =
        pair (text_of (came r w gs)) (trace (view_of r.out.state w) (lines (drop r.next script)))
        (rw (← traced c) (here (onward so_far o.printed)))

    pub line-room : (v : Words) → n + length (text_of (came r v gs)) ≤ length out
    line-room v = rw (came-text r gs v w) (here next-room)

    -- one line more
    pub onward_more : {new : List ℕ} {e : ℕ} → ((v : Words) → Appended out n (text_of (came r v gs)) new e) → Onward script from first old start r.next (view_of r.out.state w) new e
    onward_more p =
        let t = text_of (came r w gs) in
        record {
          text = o.text ++ t;
          printed = appended_then o.printed (here so_far) (p w);
          fits = o.fits;
          left =
              append_assoc o.text t (trace (view_of r.out.state w) (lines (drop r.next script)))
              ∙ ap (λ (l : List ℕ). o.text ++ l) (sym (traced c))
              ∙ o.left;
        }

  -- and behind the last
  pub onward_ends : length script ≤ at → Appended old start (trace first (lines (drop from script))) out n
  onward_ends l =
      let d : o.text ≡ trace first (lines (drop from script)) =
      sym (append-nil o.text) ∙ ap (λ (x : List ℕ). o.text ++ x) (sym (trace_done s script at l)) ∙ o.left in
      rw d at o.printed

-- the line at the place reached, as it was answered
module _ (r : WalkedLent) (s : BatchSemaphore) {before : State} {script : List ℕ} {from : ℕ} {first : State} {old : List ℕ} {start at : ℕ} {w : Words} {gs out : List ℕ} {n : ℕ} (o : Onward script from first old start at before out n) (c : Comes script at before (walked r s) w gs) where
  -- it said no step
  module _ (e : r.answer ≡ None) where
    pub bad-room : n + 4 ≤ length out
    bad-room = rw e at (line-room o c w)

    pub bad_walked : {new : List ℕ} {m : ℕ} → Appended out n (98 ∷ 97 ∷ 100 ∷ 10 ∷ []) new m → Onward script from first old start r.next (view_of s w) new m
    bad_walked {new} {m} p = onward_more o c {new = new} {e = m} (λ (u : Words). rw e p)

  -- it said one
  module _ {a : Reply × ℕ} (e : r.answer ≡ Some a) where
    abbrev stepped : Stepped
    stepped = record { reply = a.0; count = a.1; state = s }

    pub said-few : a.1 ≤ slot_count
    said-few = rw e at c.few

    pub said-room : (u : Words) → n + length (outcome_text (outcome_of stepped u gs)) ≤ length out
    said-room u = rw e at (line-room o c u)

    pub said_walked : {new : List ℕ} {m : ℕ} → ((u : Words) → Appended out n (outcome_text (outcome_of stepped u gs)) new m) → Onward script from first old start r.next (view_of s w) new m
    said_walked {new} {m} p = onward_more o c {new = new} {e = m} (λ (u : Words). rw e (p u))
