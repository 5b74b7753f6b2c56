-- The tests of questions 6 and 7 decide them, of a file whose pointers lead up.
use Rattle.std.proofs.Common.{◌≡◌, ℕ, zero, suc, ◌<◌, not, List, is_some, is_none, Some, None, Option, Decides, refl, subst, add-one, arith}
use Rattle.std.proofs.lemmas.Bool.Decides.{Decides-ltb, Decides-and, Decides-like}
use Rattle.days.specs.declared.windows.Counted.{Counted}
use Rattle.days.specs.declared.windows.Counted.TheVariants.{FromBase, ByCalendar}
use Rattle.days.specs.Windows.{by_calendar}
use Rattle.entries.specs.declared.entries.Entry.{Entry}
use Rattle.entries.specs.declared.entries.Entry.TheVariants.{Lost, Done, Step, Choice, Both, Then, Call, Template, Condition, Argument}
use Rattle.entries.specs.Parts.{at, sides, pointers}
use Rattle.contract_file.specs.declared.files.File.{File}
use Rattle.contract_file.specs.Chains.{chain}
use Rattle.contract_file.specs.Clauses.{CallRight, Calls, WindowRight, Windows}
use Rattle.contract_file.specs.Marks.{mark}
use Rattle.contract_file.specs.Pass.{LowestReach}
use Rattle.contract_file.specs.Reach.{Follows}
use Rattle.contract_file.proofs.Ahead.{sides_follow, pointers_follow, one_passed}
use Rattle.contract_file.proofs.Everywhere.{numbered}
use Rattle.contract_file.proofs.Spreading.{Under, Spread, none_passed, all_passed, decides_below, decides_unreached}
use Rattle.openings.proofs.Unfolding.{Leading}
use Rattle.answers.specs.Computed.{reached_below, reached, below_mark, call_test, calls_test, window_test, windows_test}
use Rattle.answers.proofs.Deciding.{decides_nothing, decides_leb, decides_if}

-- a window's days are counted by the calendar
dated_is : (c : Counted) → Decides (by_calendar c) (c ≡ ByCalendar)
dated_is FromBase = ((λ e. cc), (λ is. cc))
dated_is ByCalendar = ((λ _. refl), (λ _. refl))

-- less than a mark
decides_below_mark : (n : ℕ) (o : Option ℕ) → Decides (below_mark n o) (Under n o)
decides_below_mark n None = ((λ _. tt), (λ _. refl))
decides_below_mark n (Some m) = Decides-ltb n m

no_mark : (o : Option ℕ) → is_some o ≡ not (is_none o)
no_mark None = refl
no_mark (Some m) = refl

module _ (f : File) (up : Leading f) where
  abbrev es : List Entry
  es = f.entries

  module _ (way : Entry → ℕ × ℕ) (follows : Follows way) where
    spread_below : (i : ℕ) → Spread way es (reached_below way es i) i
    unfolding reached_below
    spread_below zero = none_passed way es
    spread_below (suc i) = subst (Spread way es (reached_below way es (suc i))) (add-one i) (one_passed f up.few up.nowhere up.pointers way follows (reached_below way es i) i (spread_below i))

    pub lowest_reach : LowestReach way es (reached way f)
    lowest_reach = all_passed way es follows up.nowhere (reached way f) 257 (omega (arith, up.long)) (spread_below 257)

  -- 6
  decides_call : (i : ℕ) (e : Entry) → at es i ≡ e → Decides (call_test f (reached sides f) i e) (CallRight f i e)
  decides_call i Lost is = decides_nothing
  decides_call i Done is = decides_nothing
  decides_call i (Step w t cs) is = decides_nothing
  decides_call i (Choice l r) is = decides_nothing
  decides_call i (Both l r) is = decides_nothing
  decides_call i (Then l r) is = decides_nothing
  decides_call i (Call t a) is =
      let bare = reached sides f in
      let there : 0 < i = numbered es i (λ lost. cc) up.nowhere in
      let below = decides_below sides es bare (lowest_reach sides sides_follow) i there t (below_mark t (mark bare i)) (decides_below_mark t (mark bare i)) in
      Decides-like _ (λ h. record { named = h.0; below = h.1 }) (λ right. (right.named, right.below)) (Decides-and _ _ (Decides-ltb 0 (chain f t)) below)
  decides_call i (Template k b n) is = decides_nothing
  decides_call i (Condition k t n) is = decides_nothing
  decides_call i (Argument k v n) is = decides_nothing

  pub decides_calls : (i : ℕ) → Decides (calls_test f (reached sides f) i) (Calls f i)
  decides_calls i = decides_call i (at es i) refl

  -- 7
  decides_window : (i : ℕ) (e : Entry) → at es i ≡ e → Decides (window_test (reached pointers f) i e) (WindowRight f i e)
  decides_window i Lost is = decides_nothing
  decides_window i Done is = decides_nothing
  decides_window i (Step w t cs) is =
      let marks = reached pointers f in
      let there : 0 < i = numbered es i (λ lost. cc) up.nowhere in
      let unreached = decides_unreached pointers es marks (lowest_reach pointers pointers_follow) i there (is_none (mark marks i)) (no_mark (mark marks i)) in
      Decides-like _
      (λ h. record { order = h.0.0; limit = h.0.1; apart = h.1 })
      (λ right. ((right.order, right.limit), right.apart))
      (Decides-and _ _ (Decides-and _ _ (decides_leb w.first w.last) (decides_leb w.last 65535)) (decides_if (by_calendar w.counted) _ (dated_is w.counted) unreached))
  decides_window i (Choice l r) is = decides_nothing
  decides_window i (Both l r) is = decides_nothing
  decides_window i (Then l r) is = decides_nothing
  decides_window i (Call k a) is = decides_nothing
  decides_window i (Template k b n) is = decides_nothing
  decides_window i (Condition k t n) is = decides_nothing
  decides_window i (Argument k v n) is = decides_nothing

  pub decides_windows : (i : ℕ) → Decides (windows_test f (reached pointers f) i) (Windows f i)
  decides_windows i = decides_window i (at es i) refl
