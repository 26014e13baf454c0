-- The word that a case is made, and that it stands for it.
use mathlib.Core.Path.{◌≡◌, refl}
use mathlib.Core.Bool.{Bool, true, false}
use mir.Val.{bool_byte}
use denote.Enum.Declared.{tag_of}
use Rattle.rules.specs.contracts.Priority.{the_type as priority}
use Rattle.rules.specs.contracts.TaskState.{the_type as task_state}
use Rattle.rules.specs.declared.Priority.{Priority}
use Rattle.rules.specs.declared.Priority.TheVariants.{Back, Bypassable, Front}
use Rattle.rules.specs.declared.TaskState.{TaskState}
use Rattle.rules.specs.declared.TaskState.TheVariants.{Runnable, Blocked, Sleeping, Finished}
use Rattle.words.specs.View.{state_of, state_word, kind_of, kind_word, marked, mark_word, is_state, is_kind, is_mark}

-- what the code's own conversions give
pub mark_as : (b : Bool) → bool_byte b ≡ mark_word b
mark_as true = refl
mark_as false = refl

pub kind_as : (k : Priority) → tag_of priority k ≡ kind_word k
kind_as Back = refl
kind_as Bypassable = refl
kind_as Front = refl

pub state-as : (s : TaskState) → tag_of task_state s ≡ state_word s
state-as Runnable = refl
state-as Blocked = refl
state-as Sleeping = refl
state-as Finished = refl

pub mark_back : (b : Bool) → marked (mark_word b) ≡ b
mark_back true = refl
mark_back false = refl

pub kind_back : (k : Priority) → kind_of (kind_word k) ≡ k
kind_back Back = refl
kind_back Bypassable = refl
kind_back Front = refl

pub state-back : (s : TaskState) → state_of (state_word s) ≡ s
state-back Runnable = refl
state-back Blocked = refl
state-back Sleeping = refl
state-back Finished = refl

pub mark_stands : (b : Bool) → is_mark (mark_word b) ≡ true
mark_stands true = refl
mark_stands false = refl

pub kind_stands : (k : Priority) → is_kind (kind_word k) ≡ true
kind_stands Back = refl
kind_stands Bypassable = refl
kind_stands Front = refl

pub state-stands : (s : TaskState) → is_state (state_word s) ≡ true
state-stands Runnable = refl
state-stands Blocked = refl
state-stands Sleeping = refl
state-stands Finished = refl
