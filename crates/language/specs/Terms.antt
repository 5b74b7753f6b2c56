-- Terms: what is left of a contract, and how a clause opens to one. Assumes nothing.
use Rattle.std.specs.Prelude.{ℕ, zero, suc, ◌+◌, ◌<◌, Bool, true, false, cond, ◌&&◌, ◌||◌, List, length}
use Rattle.kinds.specs.declared.fields.Conditions.{Conditions}
use Rattle.kinds.specs.Rows.{Row, fill}
use Rattle.language.specs.Clauses.{Window, Clause, done, lost, step, choice, both, then, call, body}

pub data Term : Type 0 where
  Done Lost : Term
  -- a step, its row and its base
  Leaf : ℕ → Window → Conditions → Clause → Row → ℕ → Term
  Choice Both : Term → Term → Term
  -- a term, then a clause with its row
  Follow : Term → Clause → Row → Term

-- Nothing more needs to come.
abbrev pub may_end : Term → Bool
may_end Done = true
may_end Lost = false
may_end (Leaf e w cs tail row base) = false
may_end (Choice l r) = may_end l || may_end r
may_end (Both l r) = may_end l && may_end r
may_end (Follow t c row) = false

-- How many nodes a term has.
abbrev pub nodes : Term → ℕ
nodes Done = 1
nodes Lost = 1
nodes (Leaf e w cs tail row base) = 1
nodes (Choice l r) = 1 + (nodes l + nodes r)
nodes (Both l r) = 1 + (nodes l + nodes r)
nodes (Follow t c row) = 1 + nodes t

abbrev pub is_done : Term → Bool
is_done Done = true
is_done Lost = false
is_done (Leaf e w cs tail row base) = false
is_done (Choice l r) = false
is_done (Both l r) = false
is_done (Follow t c row) = false

abbrev pub is_lost : Term → Bool
is_lost Done = false
is_lost Lost = true
is_lost (Leaf e w cs tail row base) = false
is_lost (Choice l r) = false
is_lost (Both l r) = false
is_lost (Follow t c row) = false

-- The nodes, tidied: a choice with a lost side is the other side.
unfoldable pub choice_of : Term → Term → Term
choice_of l r = cond (is_lost l) r (cond (is_lost r) l (Choice l r))

-- A both with a lost side is lost, with a done side the other side.
unfoldable pub both_of : Term → Term → Term
both_of l r = cond (is_lost l || is_lost r) Lost (cond (is_done l) r (cond (is_done r) l (Both l r)))

-- A follow of done or lost is lost.
unfoldable pub follow_of : Term → Clause → Row → Term
follow_of t c row = cond (is_done t || is_lost t) Lost (Follow t c row)

-- What comes after a term: the follow, and if the term may end, also the clause opened.
unfoldable pub then_of : Term → Clause → Row → Term → Term
then_of t c row opened = cond (may_end t) (choice_of (follow_of t c row) opened) (follow_of t c row)

-- Each bare call, one that is reached through choice, both and then alone, names a template below k.
abbrev pub BareBelow : ℕ → Clause → Type 0
BareBelow k done = Unit {0}
BareBelow k lost = Unit {0}
BareBelow k (step e w cs tail) = Unit {0}
BareBelow k (choice l r) = BareBelow k l × BareBelow k r
BareBelow k (both l r) = BareBelow k l × BareBelow k r
BareBelow k (then l r) = BareBelow k l × BareBelow k r
BareBelow k (call j args) = j < k

abbrev pub Guarded : List Clause → Type 0
Guarded templates = (k : ℕ) → BareBelow k (body templates k)

-- A clause opened from a row and a base day, where the bodies of calls open by `calls`.
unfoldable pub open_with : (ℕ → Row → ℕ → Term) → Clause → Row → ℕ → Term
open_with calls done row base = Done
open_with calls lost row base = Lost
open_with calls (step e w cs tail) row base = Leaf e w cs tail row base
open_with calls (choice l r) row base = choice_of (open_with calls l row base) (open_with calls r row base)
open_with calls (both l r) row base = both_of (open_with calls l row base) (open_with calls r row base)
open_with calls (then l r) row base =
    let opened : Term = open_with calls r row base in
    then_of (open_with calls l row base) r row opened
open_with calls (call k args) row base = calls k (fill args row) base

module _ (templates : List Clause) where
  -- A template's body opened, where calls stand at most n deep.
  unfoldable pub open_call : ℕ → ℕ → Row → ℕ → Term
  open_call zero k row base = Lost
  open_call (suc n) k row base = open_with (open_call n) (body templates k) row base

  -- A clause opened. Bare calls name templates below their own, so this depth is enough.
  unfoldable pub opened : Clause → Row → ℕ → Term
  opened c row base = open_with (open_call (suc (length templates))) c row base
