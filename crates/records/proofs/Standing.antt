-- What stands at a slot, in use or free; and what its changed marks are seen as.
use Rattle.std.specs.Prelude.{Option, None, Some, unwrap_or, option_map}
use mathlib.Core.Path.{◌≡◌, refl, sym, ap, subst, ◌∙◌}
use mathlib.Core.Bool.{Bool, true, false, cond}
use Rattle.splitting.specs.Plain.{Request as RequestRule, no_request}
use Rattle.records.specs.declared.Request.{Request}
use Rattle.records.specs.declared.Marking.{Marking}
use Rattle.records.specs.View.{request_of, seen, Stands, Changed, marking}

pub stands-used : (r : Request) → r.used ≡ true → Stands r (seen r)
stands-used r u = record { used = refl; view = sym (ap (λ (b : Bool). unwrap_or (cond b (Some (request_of r)) None) no_request) u) }

pub stands-free : (r q : Request) → r.used ≡ false → Stands q None → Stands q (seen r)
stands-free r q u s =
    let e : None ≡ seen r = sym (ap (λ (b : Bool). cond b (Some (request_of r)) None) u) in
    record { used = s.used ∙ e; view = s.view ∙ ap (λ (o : Option RequestRule). unwrap_or o no_request) e }

map-cond : (f : RequestRule → RequestRule) (b : Bool) (z : RequestRule) → cond b (Some (f z)) None ≡ option_map f (cond b (Some z) None)
map-cond f true z = refl
map-cond f false z = refl

pub changed_seen : (f : RequestRule → RequestRule) (r q : Request) → Changed f r q → seen q ≡ option_map f (seen r)
changed_seen f r q k =
    ap (λ (b : Bool). cond b (Some (request_of q)) None) k.used
    ∙ ap (λ (z : RequestRule). cond r.used (Some z) None) k.view
    ∙ map-cond f r.used (request_of r)

-- in an arm of a match, the marking is the arm's
pub by_marking : (m k : Marking) (r q : Request) → m ≡ k → Changed (marking k) r q → Changed (marking m) r q
by_marking m k r q e c = subst (λ (z : Marking). Changed (marking z) r q) (sym e) c
