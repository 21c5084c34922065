-- The items of a list from a place on, handed out in one call: ten numbers each, as many as there is room for.
use Rattle.std.specs.Prelude.{ℕ, zero, suc, ◌+◌, ◌-◌, ◌*◌, ◌/◌, List, [], ◌∷◌, ◌++◌, ltb, length, get_or, drop, Result, Ok, Err, Option, Some, None}
use Rattle.refusal.specs.declared.Refusal.{Refusal}
use Rattle.refusal.specs.declared.Refusal.TheVariants.{OutputTooSmall}
use Rattle.base.specs.Choice.{◌if◌, first}
use Rattle.programme.specs.Reading.{Step, step_of}
use Rattle.programme.specs.declared.Item.{Item}
use Rattle.programme_items.specs.declared.Passed.{Passed}

-- an item's ten numbers: its fixed fields and those that its flags include, else 0; where its name begins; how many descriptors it has
-- and where they begin; the place after it. The byte that counts the descriptors stands between the name and them, and they end with the item.
abbrev pub numbers_of : Item → List ℕ
numbers_of i =
    i.linkage ∷ i.flags ∷ i.playback ∷ i.delay ∷ i.expires ∷ i.size
    ∷ i.nameat
    ∷ i.descriptors.count ∷ i.descriptors.place
    ∷ i.next ∷ []

-- the item that ten numbers tell
abbrev pub item_back : List ℕ → Item
item_back l =
    record {
      linkage = get_or l 0 0;
      flags = get_or l 1 0;
      playback = get_or l 2 0;
      delay = get_or l 3 0;
      expires = get_or l 4 0;
      size = get_or l 5 0;
      nameat = get_or l 6 0;
      named = get_or l 8 0 - 1 - get_or l 6 0;
      descriptors = record { count = get_or l 7 0; place = get_or l 8 0; length = get_or l 9 0 - get_or l 8 0 };
      next = get_or l 9 0;
    }

-- an item and those that follow it, where a step finds one
abbrev pub onward : Step → (Item → List Item) → List Item
onward (Ok (Some i)) rest = i ∷ rest i
onward (Ok None) rest = []
onward (Err r) rest = []

-- the items from a place on, the one there taken for item k: n at most, up to and with the last of the section, or up to the first that
-- is refused, without it
unfoldable pub items_from : ℕ → List ℕ → ℕ → ℕ → List Item
items_from zero s at k = []
items_from (suc n) s at k = onward (step_of s at k) (λ i. items_from n s i.next (k + 1))

-- their numbers, one item after the other
unfoldable pub all_numbers : List Item → List ℕ
all_numbers [] = []
all_numbers (i ∷ is) = numbers_of i ++ all_numbers is

-- the place after the last of them
unfoldable pub place_after : ℕ → List Item → ℕ
place_after at [] = at
place_after at (i ∷ is) = place_after i.next is

-- what a call answers: how many items were handed out and the place after the last, none where the list has none of that number, or a refusal
abbrev pub Walk : Type 0
Walk = Result (Option Passed) Refusal

-- what a call answers, and the lent numbers after it
pub record Walked : Type 0 where
  pub walk : Walk
  pub fields : List ℕ

abbrev pub walked : Walk → List ℕ → Walked
walked w fields = record { walk = w; fields = fields }

-- the items, put at the front of the numbers
abbrev pub handed : ℕ → List ℕ → List Item → Walked
handed at fields is =
    walked (Ok (Some (record { count = length is; next = place_after at is }))) (all_numbers is ++ drop (10 * length is) fields)

-- by what a step at the place finds; where it finds an item, 15 where fewer than ten numbers are lent
abbrev pub walk_by : List ℕ → ℕ → ℕ → List ℕ → Step → Walked
walk_by s at k fields (Err r) = walked (Err r) fields
walk_by s at k fields (Ok None) = walked (Ok None) fields
walk_by s at k fields (Ok (Some i)) =
    first (λ r. walked (Err r) fields) (OutputTooSmall if ltb (length fields) 10 ∷ []) (handed at fields (items_from (length fields / 10) s at k))

unfoldable pub walk_of : List ℕ → ℕ → ℕ → List ℕ → Walked
walk_of s at k fields = walk_by s at k fields (step_of s at k)
