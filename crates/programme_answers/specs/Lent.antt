-- How the boundary answers about an NRT-IT section: a number of refusal in the low 8 bits, and values in the bits above them or in a lent
-- buffer.
use Rattle.std.specs.Prelude.{ℕ, zero, suc, ◌+◌, ◌*◌, ◌/◌, ◌%◌, ◌^◌, ◌<◌, ◌≤◌, ◌≡◌, List, [], ◌∷◌, ◌++◌, ◌↔◌, eqb, length, get_or, drop, if◌then◌else◌, Ok, Err, Some, None}
use Rattle.refusal.specs.Refusal.{number, refusal_of}
use Rattle.refusal.specs.declared.Refusal.{Refusal}
use Rattle.base.specs.Octets.{Octets}
use Rattle.answers.specs.Answers.{Out, out, puts}
use Rattle.programme.specs.Reading.{Own, read_of, step_of, own_of}
use Rattle.programme.specs.Answer.{reading_told}
use Rattle.programme.specs.declared.Programme.{Programme}
use Rattle.programme.specs.declared.Loop.{Loop}
use Rattle.programme.specs.declared.Item.{Item}
use Rattle.programme_items.specs.Items.{Walk, item_back, items_from, place_after, Walked, walk_of}
use Rattle.programme_items.specs.declared.Passed.{Passed}

-- the four numbers before the items, put into the buffer
unfoldable pub read_lent : List ℕ → List ℕ → Out
read_lent s fields = puts (reading_told (read_of s)) fields

-- items are kind 1, from bit 8 up, with how many they are from bit 16 and the place after the last from bit 32; that the section has no
-- item of that number is kind 2
abbrev pub items_kind : ℕ
items_kind = 1 * 2 ^ 8

abbrev pub over_kind : ℕ
over_kind = 2 * 2 ^ 8

abbrev pub passed_code : Passed → ℕ
passed_code p = items_kind + p.count * 2 ^ 16 + p.next * 2 ^ 32

abbrev pub walk_code : Walk → ℕ
walk_code (Ok (Some p)) = passed_code p
walk_code (Ok None) = over_kind
walk_code (Err r) = number r

abbrev pub walk_lent : Walked → Out
walk_lent w = out (walk_code w.walk) w.fields

unfoldable pub items_lent : List ℕ → ℕ → ℕ → List ℕ → Out
items_lent s at k fields = walk_lent (walk_of s at k fields)

-- the table's own loop: from bit 8 its count, from bit 16 its place, from bit 32 its length
abbrev pub loop_code : Loop → ℕ
loop_code l = l.count * 2 ^ 8 + l.place * 2 ^ 16 + l.length * 2 ^ 32

abbrev pub own_code : Own → ℕ
own_code (Ok l) = loop_code l
own_code (Err r) = number r

-- What a host takes out of them:
abbrev pub programme_back : List ℕ → Programme
programme_back l = record { service = get_or l 0 0; start = get_or l 1 0; minutes = get_or l 2 0; items = get_or l 3 0 }

-- so many items, ten numbers each
unfoldable pub items_back : ℕ → List ℕ → List Item
items_back zero l = []
items_back (suc n) l = item_back l ∷ items_back n (drop 10 l)

abbrev pub own_back : ℕ → Own
own_back code =
    if eqb (code % 2 ^ 8) 0
    then Ok (record { count = code / 2 ^ 8 % 2 ^ 8; place = code / 2 ^ 16 % 2 ^ 16; length = code / 2 ^ 32 })
    else Err (refusal_of code)

-- Of a payload `s` and the lent numbers `fields`; and of a place and a number asked:
module _ (s fields : List ℕ) where
  -- a refused reading leaves the buffer as it was
  abbrev pub ReadUntouched : Type 0
  ReadUntouched = ¬ ((read_lent s fields).code ≡ 0) → (read_lent s fields).out ≡ fields

  -- any number but 0 and 15 is the code exactly when the fields before the items are refused by it
  abbrev pub ReadRefused : Type 0
  ReadRefused = (n : ℕ) → ¬ (n ≡ 0) → ¬ (n ≡ 15) → ((read_lent s fields).code ≡ n) ↔ ((r : Refusal) × ((number r ≡ n) × (read_of s ≡ Err r)))

  -- it is accepted exactly when these are read and the buffer has room for them
  abbrev pub ReadAccepted : Type 0
  ReadAccepted = ((read_lent s fields).code ≡ 0) ↔ (((p : Programme) × (read_of s ≡ Ok p)) × (4 ≤ length fields))

  -- 15 exactly when these are read and the buffer has less room
  abbrev pub Read15 : Type 0
  Read15 = ((read_lent s fields).code ≡ 15) ↔ (((p : Programme) × (read_of s ≡ Ok p)) × (length fields < 4))

  -- and where it is accepted these come back out of the buffer
  abbrev pub ReadComesBack : Type 0
  ReadComesBack = (read_lent s fields).code ≡ 0 → read_of s ≡ Ok (programme_back (read_lent s fields).out)

  module _ (at k : ℕ) where
    -- bits 0 to 15 of the answer, the refusal and the kind; how many items it says; the place after them
    abbrev pub kind : ℕ
    kind = (items_lent s at k fields).code % 2 ^ 16

    abbrev pub many : ℕ
    many = (items_lent s at k fields).code / 2 ^ 16 % 2 ^ 16

    abbrev pub after : ℕ
    after = (items_lent s at k fields).code / 2 ^ 32

    -- where no items are handed out the buffer is as it was
    abbrev pub ItemsUntouched : Type 0
    ItemsUntouched = ¬ (kind ≡ items_kind) → (items_lent s at k fields).out ≡ fields

    -- any number below 256 but 15 is the code exactly when a step there is refused by it
    abbrev pub ItemsRefused : Type 0
    ItemsRefused = (n : ℕ) → n < 256 → ¬ (n ≡ 15) → ((items_lent s at k fields).code ≡ n) ↔ ((r : Refusal) × ((number r ≡ n) × (step_of s at k ≡ Err r)))

    -- items are handed out exactly when one stands there and the buffer has room for it
    abbrev pub ItemsHanded : Type 0
    ItemsHanded = (kind ≡ items_kind) ↔ (((i : Item) × (step_of s at k ≡ Ok (Some i))) × (10 ≤ length fields))

    -- 15 exactly when one stands there and the buffer has less room
    abbrev pub Items15 : Type 0
    Items15 = ((items_lent s at k fields).code ≡ 15) ↔ (((i : Item) × (step_of s at k ≡ Ok (Some i))) × (length fields < 10))

    -- kind 2 exactly when the section has no item of that number
    abbrev pub ItemsOver : Type 0
    ItemsOver = ((items_lent s at k fields).code ≡ over_kind) ↔ (step_of s at k ≡ Ok None)

    -- of kind 1 the items come back out of the buffer, as many as the answer says, and the place after the last out of the answer
    abbrev pub ItemsComeBack : Type 0
    ItemsComeBack =
        kind ≡ items_kind
        → (items_from (length fields / 10) s at k ≡ items_back many (items_lent s at k fields).out) × (place_after at (items_from (length fields / 10) s at k) ≡ after)

    -- the numbers behind theirs are as they were
    abbrev pub ItemsRest : Type 0
    ItemsRest =
        kind ≡ items_kind
        → (drop (10 * many) (items_lent s at k fields).out ≡ drop (10 * many) fields) × (length (items_lent s at k fields).out ≡ length fields)

    -- there is one at least, and each has eight bytes or more, so that a host that goes on comes to an end
    abbrev pub ItemsOn : Type 0
    ItemsOn = kind ≡ items_kind → (1 ≤ many) × (at + 8 * many ≤ after)

-- Of the items from a place on, the one there taken for item k, and n at most:
module _ (n : ℕ) (s : List ℕ) (at k : ℕ) where
  -- where they are fewer, no item stands behind them
  abbrev pub ItemsLongest : Type 0
  ItemsLongest =
      length (items_from n s at k) < n
      → (i : Item) → ¬ (step_of s (place_after at (items_from n s at k)) (k + length (items_from n s at k)) ≡ Ok (Some i))

  -- a host that goes on behind them, with the number that follows, gets what one call with more room would have given it
  abbrev pub ItemsGoOn : Type 0
  ItemsGoOn =
      (m : ℕ)
      → items_from (n + m) s at k
      ≡ items_from n s at k ++ items_from m s (place_after at (items_from n s at k)) (k + length (items_from n s at k))

  -- they are never more than 125, so that 1,250 numbers have room for the items of any section
  abbrev pub ItemsFew : Type 0
  ItemsFew = length (items_from n s at k) ≤ 125

-- the table's own loop, or the refusal, comes back out of the number
abbrev pub OwnComesBack : List ℕ → ℕ → Type 0
OwnComesBack s at = Octets s → own_back (own_code (own_of s at)) ≡ own_of s at
