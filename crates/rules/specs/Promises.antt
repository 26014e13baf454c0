-- What the promises speak of (proofs/Promises.antt): sums over a run, who is stranded, who is passed over, and which numbers fit.
use Rattle.std.specs.Prelude.{ℕ, ◌+◌, ◌≤◌, ◌<◌, ◌≡◌, true, false, cond, not, ◌&&◌, ◌||◌, List, [], ◌∷◌, ◌++◌, map, eqb, length, Option, None, Some}
use Rattle.rules.specs.declared.TaskId.{TaskId}
use Rattle.rules.specs.declared.Slot.{Slot}
use Rattle.rules.specs.declared.Grant.{Grant}
use Rattle.rules.specs.declared.Taker.{Taker}
use Rattle.rules.specs.declared.Taker.TheVariants.{BySlot, ByTry}
use Rattle.rules.specs.declared.Verdict.{Verdict}
use Rattle.rules.specs.declared.Verdict.TheVariants.{Leaves, Fits, Passed, Ends}
use Rattle.rules.specs.declared.Dropping.{Dropping}
use Rattle.rules.specs.declared.Dropping.TheVariants.{Leaving, Unreserving, Returning, Nothing}
use Rattle.rules.specs.declared.Act.{Act}
use Rattle.rules.specs.declared.Act.TheVariants.{Acquire, AcquireBypassable, AcquireReserving, Upgrade, Poll, Try, TryUpgrade, Release, Drop, Close, Sleep, Finish}
use Rattle.rules.specs.declared.Step.{Step}
use Rattle.rules.specs.Sizes.{max_tasks, slot_count, batch_count, width, largest}
use Rattle.rules.specs.Clock.{Clock}
use Rattle.rules.specs.Task.{Task}
use Rattle.rules.specs.Request.{Request, is_bypassable}
use Rattle.rules.specs.State.{Batch, State, strict, stock, request_at, asked_at, owner_finished}
use Rattle.rules.specs.Fresh.{Start}
use Rattle.rules.specs.Scan.{leave, verdict, grant_queued, queue_grant}
use Rattle.rules.specs.Steps.{sort_of, by_sort, add_released, dropping, is_first, front_bypassable, effect_of}
use Rattle.rules.specs.Refusals.{refusal}
use Rattle.rules.specs.Runs.{Said, step}
use Rattle.rules.specs.Broken.{member, twice, set_up_batches}

-- every element has the property
abbrev pub Each {ℓ} : {A : Type ℓ} → (A → Type 0) → List A → Type 0
Each P [] = Unit {0}
Each P (x ∷ xs) = P x × Each P xs

-- two lists of one length, related element by element
abbrev pub EachPair {ℓ m} : {A : Type ℓ} {B : Type m} → (A → B → Type 0) → List A → List B → Type 0
EachPair R [] [] = Unit {0}
EachPair R [] (y ∷ ys) = ⊥
EachPair R (x ∷ xs) [] = ⊥
EachPair R (x ∷ xs) (y ∷ ys) = R x y × EachPair R xs ys

-- Conservation.

-- the permits of some grants
unfoldable pub counts : List Grant → ℕ
counts [] = 0
counts (g ∷ gs) = g.count + counts gs

-- Permits granted: the sum over the grants that the steps returned.
unfoldable pub granted_in : List Said → ℕ
granted_in [] = 0
granted_in (a ∷ as') = counts a.grants + granted_in as'

-- the permits that an accepted step releases: those of a release
abbrev pub releases : Act → ℕ
releases a = by_sort (sort_of a) (λ n. n) (λ x. 0) 0

-- the permits that an accepted step gives up: those of a holder dropped before it completed
abbrev pub gives_up : Act → State → ℕ
gives_up a s = by_sort (sort_of a) (λ n. 0) (λ x. cond ((request_at x s).holding && not (request_at x s).completed) (asked_at x s) 0) 0

-- what is said of an accepted step, or of a refused one
abbrev pub if_accepted {ℓ} : {A : Type ℓ} → Option ℕ → A → A → A
if_accepted None a r = a
if_accepted (Some n) a r = r

-- the sum over the accepted steps of a run, each in the state that it meets
unfoldable pub over_run : (Act → State → ℕ) → List Step → State → ℕ
over_run f [] s = 0
over_run f (a ∷ as') s = if_accepted (refusal a s) (f a.act s) 0 + over_run f as' (step a s).state

-- Permits released: the sum over the accepted releases.
abbrev pub released_in : List Step → State → ℕ
released_in as' s = over_run (λ a b. releases a) as' s

-- Permits given up: the sum over the accepted drops of holders that had not completed.
abbrev pub given_up_in : List Step → State → ℕ
given_up_in as' s = over_run gives_up as' s

-- Nobody is stranded.

-- Each of these requests, up to and including the first that is not Bypassable, asks for more than the stock.
unfoldable pub AskTooMuch : List Slot → State → Type 0
AskTooMuch [] s = Unit {0}
AskTooMuch (x ∷ q) s = (stock s < asked_at x s) × (is_bypassable (request_at x s).ask.kind ≡ true → AskTooMuch q s)

abbrev pub NobodyStranded : State → Type 0
NobodyStranded s = AskTooMuch s.queue s

-- Who is passed over.

-- a grant, and the state at the moment when it is made
pub record Moment : Type 0 where
  pub grant : Grant
  pub state : State

abbrev pub grants_of : List Moment → List Grant
grants_of ms = map (λ (m : Moment). m.grant) ms

pub record Watched : Type 0 where
  pub moments : List Moment
  pub state : State

-- a grant from the queue is made in the state in which its request fits
abbrev pub queue_moment : Slot → State → Moment
queue_moment x s = record { grant = queue_grant x s; state = s }

-- The walk of a scan, watched: the rules' own turn and walk, but that each grant is kept with the state in which it is made.
abbrev pub watch_turn : Verdict → Slot → (State → List Moment → Watched) → State → List Moment → Watched
watch_turn Leaves x on s ms = on (leave x s) ms
watch_turn Fits x on s ms = on (grant_queued x s) (ms ++ queue_moment x s ∷ [])
watch_turn Passed x on s ms = on s ms
watch_turn Ends x on s ms = record { moments = ms; state = s }

unfoldable pub watch_walk : List Slot → State → List Moment → Watched
watch_walk [] s ms = record { moments = ms; state = s }
watch_walk (x ∷ q) s ms = watch_turn (verdict x s) x (λ b ns. watch_walk q b ns) s ms

unfoldable pub watch_scan : State → List Moment
watch_scan s = (watch_walk s.queue s []).moments

-- a release scans after it has added its permits, on a strictly fair semaphore
unfoldable pub watch_release : TaskId → ℕ → State → List Moment
watch_release t n s = cond (eqb n 0) [] (let a = add_released t n s in cond (strict a) (watch_scan a) [])

-- a drop scans after the request has left the queue; a holder that had not completed releases
unfoldable pub watch_drop : Dropping → TaskId → Slot → State → List Moment
watch_drop Leaving t x s =
    let a = leave x s in
    cond (strict s && (is_first x s.queue || front_bypassable a.queue a)) (watch_scan a) []
watch_drop Unreserving t x s = []
watch_drop Returning t x s = watch_release t (asked_at x s) s
watch_drop Nothing t x s = []

-- any other grant is made in the state that the step meets
abbrev pub at_once : TaskId → Act → State → List Moment
at_once t a s = map (λ (g : Grant). record { grant = g; state = s }) (effect_of t a s).grants

unfoldable pub watch_act : TaskId → Act → State → List Moment
watch_act t a s = by_sort (sort_of a) (λ n. watch_release t n s) (λ x. watch_drop (dropping x s) t x s) (at_once t a s)

-- for each step of a run, its grants with the moments when they are made
unfoldable pub watch_run : List Step → State → List (List Moment)
watch_run [] s = []
watch_run (a ∷ as') s = if_accepted (refusal a s) (watch_act a.actor a.act s) [] ∷ watch_run as' (step a s).state

-- a Bypassable request of an unfinished task, asking for more than is in stock
pub record MayBePassed (s : State) (y : Slot) : Type 0 where
  pub bypassable : is_bypassable (request_at y s).ask.kind ≡ true
  pub unfinished : owner_finished y s ≡ false
  pub large : stock s < asked_at y s

-- A grant from the queue: at the moment when it is made its request stands there, once, and ahead of it are only such requests.
pub record FromQueue (m : Moment) : Type 0 where
  pub slot : Slot
  pub ahead : List Slot
  pub behind : List Slot
  pub queue : m.state.queue ≡ ahead ++ slot ∷ behind
  pub once : twice m.state.queue ≡ false
  pub grant : m.grant ≡ queue_grant slot m.state
  pub passed : (y : Slot) → member y ahead ≡ true → MayBePassed m.state y

-- A grant taken at once: by a try, or by a request that is not in the queue.
abbrev pub TakenAtOnce : Moment → Type 0
TakenAtOnce m = (x : Slot) → m.grant.taker ≡ BySlot x → member x m.state.queue ≡ false

-- The grants of a release or a drop are from the queue; those of any other step are taken at once.
abbrev pub PassesOnlySuch : Step → List Moment → Type 0
PassesOnlySuch a ms = Each (by_sort (sort_of a.act) (λ n. FromQueue) (λ x. FromQueue) TakenAtOnce) ms

-- Counts fit.

-- a clock of the width, with no entry past the largest
pub record ClockFits (c : Clock) : Type 0 where
  pub wide : length c ≡ width
  pub entries : Each (λ n. n ≤ largest) c

pub record BatchFits (b : Batch) : Type 0 where
  pub size : b.size ≤ largest
  pub clock : ClockFits b.clock

-- a request where there are n tasks
pub record RequestFits (n : ℕ) (r : Request) : Type 0 where
  pub asked : r.ask.asked ≤ largest
  pub least : r.ask.least ≤ largest
  pub clock : ClockFits r.clock
  pub task : r.task.0 < n

abbrev pub SlotFits : ℕ → Option Request → Type 0
SlotFits n None = Unit {0}
SlotFits n (Some r) = RequestFits n r

-- no count or clock entry passes 4,294,967,295, and no slot, task or batch number its size
pub record CountsFit (s : State) : Type 0 where
  pub stock : stock s ≤ largest
  pub batches : Each BatchFits (set_up_batches s.permits.batches)
  pub batch_number : length (set_up_batches s.permits.batches) ≤ batch_count
  pub last : ClockFits s.permits.last
  pub tasks : Each (λ (a : Task). ClockFits a.clock) s.tasks
  pub task-number : length s.tasks ≤ max_tasks
  pub requests : Each (SlotFits (length s.tasks)) s.slots
  pub slot-number : length s.slots ≡ slot_count
  pub queue : Each (λ (x : Slot). x.0 < slot_count) s.queue
  pub queue-number : length s.queue ≤ slot_count
  pub reservation : (x : Slot) → s.reservation ≡ Some x → x.0 < slot_count

-- and so in a grant, where there are n tasks
abbrev pub TakerFits : Taker → Type 0
TakerFits (BySlot x) = x.0 < slot_count
TakerFits ByTry = Unit {0}

pub record GrantFits (n : ℕ) (g : Grant) : Type 0 where
  pub taker : TakerFits g.taker
  pub count : g.count ≤ largest
  pub task : g.task.0 < n

-- the numbers that a start and a step are given are at most 4,294,967,295
pub record StartFits (a : Start) : Type 0 where
  pub stock : a.stock ≤ largest
  pub clocks : Each (λ n. n ≤ largest) a.clocks

abbrev pub ActFits : Act → Type 0
ActFits (Acquire n) = n ≤ largest
ActFits (AcquireBypassable n) = n ≤ largest
ActFits (AcquireReserving least n) = (least ≤ largest) × (n ≤ largest)
ActFits (Upgrade held wanted) = (held ≤ largest) × (wanted ≤ largest)
ActFits (Poll x) = Unit {0}
ActFits (Try n) = n ≤ largest
ActFits (TryUpgrade held wanted) = (held ≤ largest) × (wanted ≤ largest)
ActFits (Release n) = n ≤ largest
ActFits (Drop x) = Unit {0}
ActFits Close = Unit {0}
ActFits Sleep = Unit {0}
ActFits Finish = Unit {0}

abbrev pub StepFits : Step → Type 0
StepFits a = ActFits a.act
