-- What the due list of a term is, and when a lent list is too short for it. Assumes nothing.
use Rattle.std.specs.Prelude.{◌≡◌, ℕ, ◌*◌, ◌<◌, ◌≤◌, List, ◌++◌, length, drop, Ok, Err, Result}
use Rattle.language.specs.Terms.{Term}
use Rattle.due.specs.declared.listing.ShortList.{ShortList}
use Rattle.due.specs.Dues.{leaves, dues}

-- With three places for each leaf, the list begins with what is due, and what stood behind is as it was: the answer is the number
-- of leaves. With fewer, the list is as it was.
pub record Listed (t : Term) (before after : List ℕ) (r : Result ℕ ShortList) : Type 0 where
  pub enough : 3 * leaves t ≤ length before → (r ≡ Ok (leaves t)) × (after ≡ dues t ++ drop (3 * leaves t) before)
  pub short : length before < 3 * leaves t → (r ≡ Err (record {})) × (after ≡ before)
