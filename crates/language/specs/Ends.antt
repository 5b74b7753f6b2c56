-- The earliest day on which a clause or a term can end. Assumes nothing.
use Rattle.std.specs.Prelude.{ℕ, zero, suc, ◌+◌, ◌*◌, min, max, Bool, true, false, cond, ◌&&◌, List, [], ◌∷◌, map, length, Some, None, Option, ◌==◌, nat_le, slice_index_or}
use Rattle.language.specs.Clauses.{Window, from_base, calendar, Clause, done, lost, step, choice, both, then, call, first, last}
use Rattle.language.specs.Terms.{Term, Done, Lost, Leaf, Choice, Both, Follow, may_end}

-- Days that may be absent: the earlier of two, the later of two, and one found from another.
abbrev pub earlier : Option ℕ → Option ℕ → Option ℕ
earlier None y = y
earlier (Some a) None = Some a
earlier (Some a) (Some b) = Some (min a b)

abbrev pub later : Option ℕ → Option ℕ → Option ℕ
later None y = None
later (Some a) None = None
later (Some a) (Some b) = Some (max a b)

abbrev pub after : Option ℕ → (ℕ → Option ℕ) → Option ℕ
after None f = None
after (Some a) f = f a

-- A day up to a last one.
unfoldable pub up_to : ℕ → ℕ → Option ℕ
up_to end d = cond (nat_le d end) (Some d) None

-- The first day of a window on or after day c.
unfoldable pub reach : Window → ℕ → ℕ → Option ℕ
reach w base c = after (up_to (last w base) (max (first w base) c)) (up_to 65535)

-- The durations of the templates, in their order, each from day 0.
abbrev pub Durations : Type 0
Durations = List (Option ℕ)

abbrev pub duration : Durations → ℕ → Option ℕ
duration D k = slice_index_or (None ∷ D) k None

-- The earliest end of a clause from a base day, given the templates' durations.
abbrev pub ends : Durations → Clause → ℕ → Option ℕ
ends D done base = Some base
ends D lost base = None
ends D (step e w cs tail) base = after (reach w base base) (ends D tail)
ends D (choice l r) base = earlier (ends D l base) (ends D r base)
ends D (both l r) base = later (ends D l base) (ends D r base)
ends D (then l r) base = after (ends D l base) (ends D r)
ends D (call k args) base = after (duration D k) (λ n. up_to 65535 (base + n))

-- No window by the calendar.
abbrev pub Relative : Clause → Type 0
Relative done = Unit {0}
Relative lost = Unit {0}
Relative (step e (from_base u v) cs tail) = Relative tail
Relative (step e (calendar u v) cs tail) = ⊥
Relative (choice l r) = Relative l × Relative r
Relative (both l r) = Relative l × Relative r
Relative (then l r) = Relative l × Relative r
Relative (call k args) = Unit {0}

-- The durations by one more round of calls.
abbrev pub round : List Clause → Durations → Durations
round templates D = map (λ c. ends D c 0) templates

abbrev pub same_day : Option ℕ → Option ℕ → Bool
same_day None None = true
same_day None (Some b) = false
same_day (Some a) None = false
same_day (Some a) (Some b) = a == b

abbrev pub same : Durations → Durations → Bool
same [] [] = true
same [] (y ∷ ys) = false
same (x ∷ xs) [] = false
same (x ∷ xs) (y ∷ ys) = same_day x y && same xs ys

module _ (templates : List Clause) where
  -- Rounds until one changes nothing, at most n.
  unfoldable pub settle : ℕ → Durations → Durations
  settle zero D = D
  settle (suc n) D =
      let next : Durations = round templates D in
      let settled : Durations = settle n next in
      cond (same D next) D settled

  -- The durations, from none known. Each round but the last lowers one of them, so these rounds are enough.
  unfoldable pub durations : Durations
  durations = settle (suc (65536 * length templates)) (map (λ c. None) templates)

-- The clock, if the term may end; else the day given.
abbrev pub now_or : Term → ℕ → Option ℕ → Option ℕ
now_or t c x = cond (may_end t) (Some c) x

-- The earliest end of a term with at least one record, all on or after the clock c.
abbrev pub next_end : Durations → Term → ℕ → Option ℕ
next_end D Done c = None
next_end D Lost c = None
next_end D (Leaf e w cs tail row base) c = after (reach w base c) (ends D tail)
next_end D (Choice l r) c = earlier (next_end D l c) (next_end D r c)
next_end D (Both l r) c =
    earlier (later (next_end D l c) (now_or r c (next_end D r c)))
    (later (now_or l c (next_end D l c)) (next_end D r c))
next_end D (Follow t cl row) c = after (next_end D t c) (ends D cl)

-- The earliest end of a term: an empty list ends on the clock.
abbrev pub end_day : Durations → Term → ℕ → Option ℕ
end_day D t c = now_or t c (next_end D t c)
