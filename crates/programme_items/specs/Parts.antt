-- How the code goes about an item: first where its parts lie, and whether one of them passes the end; then its numbers.
use Rattle.std.specs.Prelude.{ℕ, zero, suc, ◌+◌, ◌-◌, ◌*◌, ◌/◌, ◌%◌, ◌^◌, ◌<◌, ◌≤◌, List, [], ◌∷◌, ◌++◌, ltb, leb, eqb, length, get_or, drop, if◌then◌else◌, Result, Ok, Err, Option, Some, None}
use Rattle.refusal.specs.declared.Refusal.{Refusal}
use Rattle.answers.specs.Answers.{Out, out}
use Rattle.programme.specs.Field.{only, low}
use Rattle.programme.specs.Table.{content_linkage, flags, content_name_length_at, content_name_at, num_content_descriptors_at, num_content_descriptors, content_descriptors_at}
use Rattle.programme.specs.Table.{playback_length, playback_delay, expiration, content_size}
use Rattle.programme.specs.Reading.{item_run, item_at}
use Rattle.programme_items.specs.Items.{onward, all_numbers}
use Rattle.programme.specs.declared.Item.{Item}
use Rattle.programme.specs.Run.{Run}
use Rattle.programme_items.specs.declared.Parts.{Parts}

-- how many items are left from a number on; none where the list has no item of that number
abbrev pub Left : Type 0
Left = Result (Option ℕ) Refusal

abbrev pub left_by : ℕ → Result ℕ Refusal → Left
left_by k (Ok n) = if leb n k then Ok None else Ok (Some (n - k))
left_by k (Err r) = Err r

-- a place, unless it lies behind the end
unfoldable pub up_to : ℕ → ℕ → Run
up_to size place = if ltb size place then None else Some place

-- how many bytes the fields have that flags include, and their values from a place on
abbrev pub included : ℕ → ℕ
included f = only (eqb (f / 32 % 2) 1) 3 + only (eqb (f / 16 % 2) 1) 3 + only (eqb (f / 8 % 2) 1) 4 + only (eqb (f / 4 % 2) 1) 5

module _ (s : List ℕ) (at f : ℕ) where
  abbrev delay_at : ℕ
  delay_at = at + only (eqb (f / 32 % 2) 1) 3

  abbrev expires_at : ℕ
  expires_at = delay_at + only (eqb (f / 16 % 2) 1) 3

  abbrev size_at : ℕ
  size_at = expires_at + only (eqb (f / 8 % 2) 1) 4

  abbrev pub included_numbers : List ℕ
  included_numbers =
      only (eqb (f / 32 % 2) 1) (low s at 3 20)
      ∷ only (eqb (f / 16 % 2) 1) (low s delay_at 3 20)
      ∷ only (eqb (f / 8 % 2) 1) (low s expires_at 4 32)
      ∷ only (eqb (f / 4 % 2) 1) (low s size_at 5 40)
      ∷ []

-- where the parts of an item lie; none where one of them passes the end
abbrev pub Lies : Type 0
Lies = Option Parts

-- the flags of an item, the places of its name's length and of its descriptors' number, and where it ends
abbrev pub parts_by : List ℕ → ℕ → Run → Lies
parts_by s at None = None
parts_by s at (Some end) =
    Some (record { flags = flags s at; named = content_name_length_at s at; counted = num_content_descriptors_at s at; next = end })

abbrev pub lies_of : List ℕ → ℕ → Lies
lies_of s at = if ltb (length s) (content_descriptors_at s at) then None else parts_by s at (item_run s at)

-- the numbers of the item at a place that ends at another
abbrev pub numbers_to : List ℕ → ℕ → ℕ → List ℕ
numbers_to s at end =
    content_linkage s at ∷ flags s at
    ∷ playback_length s at ∷ playback_delay s at ∷ expiration s at ∷ content_size s at
    ∷ content_name_at s at
    ∷ num_content_descriptors s at ∷ content_descriptors_at s at
    ∷ end ∷ []

-- the items from a place on, n at most, where nothing says how many the list has
unfoldable pub chain : ℕ → List ℕ → ℕ → List Item
chain zero s at = []
chain (suc n) s at = onward (item_at s at) (λ i. chain n s i.next)

-- how many numbers they have, and the lent ones after they are put there
abbrev pub told_by : List ℕ → List Item → Out
told_by fields is = out (10 * length is) (all_numbers is ++ drop (10 * length is) fields)

-- what makes ten numbers an item's: each is as narrow as its field, and name and descriptors lie one after the other
pub record Narrow (l : List ℕ) : Type 0 where
  pub ten : 10 ≤ length l
  pub linkage : get_or l 0 0 < 2 ^ 32
  pub flags : get_or l 1 0 < 2 ^ 16
  pub playback : get_or l 2 0 < 2 ^ 32
  pub delay : get_or l 3 0 < 2 ^ 32
  pub expires : get_or l 4 0 < 2 ^ 32
  pub count : get_or l 7 0 < 2 ^ 8
  pub name : get_or l 6 0 + 1 ≤ get_or l 8 0
  pub descriptors : get_or l 8 0 ≤ get_or l 9 0
