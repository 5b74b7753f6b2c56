-- How the sixteen bytes of an entry are read. What a tag does not name is zero.
use Rattle.std.specs.Prelude.{ℕ, ◌+◌, ◌*◌, Bool, cond, ◌&&◌, List, length, drop, Some, None, Option, ◌==◌, nat_le, slice_index}
use Rattle.std.proofs.Common.{to_z}
use Rattle.std.specs.Int.{w32}
use Rattle.kinds.specs.declared.fields.Test.{Test}
use Rattle.kinds.specs.declared.fields.Test.TheVariants.{Equals, Between, EqualsSlot, Put, AtLeastSlotPlus, Near}
use Rattle.days.specs.declared.windows.Counted.{Counted}
use Rattle.days.specs.declared.windows.Counted.TheVariants.{FromBase, ByCalendar}
use Rattle.entries.specs.declared.layout.Fields.{Fields}
use Rattle.kinds.specs.declared.rows.Value.{Value}
use Rattle.kinds.specs.declared.rows.Value.TheVariants.{Constant, Slot}
use Rattle.entries.specs.declared.entries.Entry.{Entry}
use Rattle.entries.specs.declared.entries.Entry.TheVariants.{Lost, Done, Step, Choice, Both, Then, Call, Template, Condition, Argument}

-- numbers have their high byte first
abbrev pub two : ℕ → ℕ → ℕ
two high low = high * 256 + low

abbrev pub four : ℕ → ℕ → ℕ → ℕ → ℕ
four a b c d = two a b * 65536 + two c d

-- the two and the four bytes from a place on
abbrev pub two_at : List ℕ → ℕ → ℕ
two_at b i = two (slice_index b i) (slice_index b (i + 1))

abbrev pub four_at : List ℕ → ℕ → ℕ
four_at b i = four (slice_index b i) (slice_index b (i + 1)) (slice_index b (i + 2)) (slice_index b (i + 3))

-- the fields behind the tag: byte 1 of the entry is byte 0 here
abbrev pub fields_of : List ℕ → Fields
fields_of b = record { k = slice_index b 0; a = two_at b 1; b = two_at b 3; next = two_at b 5; u = four_at b 7; v = four_at b 11 }

abbrev pub when : {X : Type 0} → Bool → X → Option X
when good x = cond good (Some x) None

-- a number from low to high
abbrev pub within : ℕ → ℕ → ℕ → Bool
within low high n = nat_le low n && nat_le n high

-- done and lost: nothing
abbrev pub nothing_else : Fields → Entry → Option Entry
nothing_else f e = when (f.k == 0 && f.a == 0 && f.b == 0 && f.next == 0 && f.u == 0 && f.v == 0) e

-- an entry made of a part, if the part is there and the rest is good
abbrev pub with_part : {X : Type 0} → Option X → Bool → (X → Entry) → Option Entry
with_part None good make = None
with_part (Some x) good make = when good (make x)

-- how a step's days are counted: k = 0 from the base, k = 1 by the calendar
abbrev pub counted_of : ℕ → Option Counted
counted_of k = cond (k == 0) (Some FromBase) (cond (k == 1) (Some ByCalendar) None)

-- a step: k how the days are counted, a tail, b first condition or 0, u and v first and last day
abbrev pub step_of : Fields → Option Entry
step_of f = with_part (counted_of f.k) (f.next == 0) (λ c. Step (record { counted = c; first = f.u; last = f.v }) f.a f.b)

-- choice, both and then have the same contents: a left, b right
abbrev pub sides_of : Fields → Option (ℕ × ℕ)
sides_of f = when (f.k == 0 && f.next == 0 && f.u == 0 && f.v == 0) (f.a, f.b)

abbrev pub with_sides : Option (ℕ × ℕ) → (ℕ → ℕ → Entry) → Option Entry
with_sides None make = None
with_sides (Some sides) make = Some (make sides.0 sides.1)

abbrev pub choice_of : Fields → Option Entry
choice_of f = with_sides (sides_of f) Choice

abbrev pub both_of : Fields → Option Entry
both_of f = with_sides (sides_of f) Both

abbrev pub then_of : Fields → Option Entry
then_of f = with_sides (sides_of f) Then

-- a call: k template 1 to 16, b first argument or 0
abbrev pub call_of : Fields → Option Entry
call_of f = when (within 1 16 f.k && f.a == 0 && f.next == 0 && f.u == 0 && f.v == 0) (Call f.k f.b)

-- a template: k own number 1 to 16, a body, next
abbrev pub template_of : Fields → Option Entry
template_of f = when (within 1 16 f.k && f.b == 0 && f.u == 0 && f.v == 0) (Template f.k f.a f.next)

-- the test of a mode: b slot for 3, 4 and 5; u for 1, 2, 5 and 6; v for 2 and 6
abbrev pub test_of : ℕ → ℕ → ℕ → ℕ → Option Test
test_of mode b u v =
    cond (mode == 1) (when (b == 0 && v == 0) (Equals u))
    (cond (mode == 2) (when (b == 0) (Between u v))
    (cond (mode == 3) (when (nat_le b 7 && u == 0 && v == 0) (EqualsSlot b))
    (cond (mode == 4) (when (nat_le b 7 && u == 0 && v == 0) (Put b))
    (cond (mode == 5) (when (nat_le b 7 && v == 0) (AtLeastSlotPlus b u))
    (cond (mode == 6) (when (b == 0) (Near (to_z w32 u) v))
    None)))))

-- a condition: k field 1 to 4, a mode, next
abbrev pub condition_of : Fields → Option Entry
condition_of f = with_part (test_of f.a f.b f.u f.v) (within 1 4 f.k) (λ t. Condition f.k t f.next)

-- what fills a slot: a = 1 with the constant u, or a = 2 with slot b
abbrev pub filling_of : ℕ → ℕ → ℕ → Option Value
filling_of a b u =
    cond (a == 1) (when (b == 0) (Constant u))
    (cond (a == 2) (when (nat_le b 7 && u == 0) (Slot b))
    None)

-- an argument: k slot filled, next
abbrev pub argument_of : Fields → Option Entry
argument_of f = with_part (filling_of f.a f.b f.u) (nat_le f.k 7 && f.v == 0) (λ x. Argument f.k x f.next)

abbrev pub by_tag : ℕ → Fields → Option Entry
by_tag tag f =
    cond (tag == 1) (nothing_else f Done)
    (cond (tag == 2) (nothing_else f Lost)
    (cond (tag == 3) (step_of f)
    (cond (tag == 4) (choice_of f)
    (cond (tag == 5) (both_of f)
    (cond (tag == 6) (then_of f)
    (cond (tag == 7) (call_of f)
    (cond (tag == 8) (template_of f)
    (cond (tag == 9) (condition_of f)
    (cond (tag == 10) (argument_of f)
    None)))))))))

-- the tag is the first byte, and the fields stand behind it
abbrev pub tagged : List ℕ → Option Entry
tagged bytes = by_tag (slice_index bytes 0) (fields_of (drop 1 bytes))

-- the entry that sixteen bytes hold, if they hold one
abbrev pub entry_of : List ℕ → Option Entry
entry_of bytes = cond (length bytes == 16) (tagged bytes) None
