-- What is proved of programme lists, in words of the payload `s`: the words, and the statements, each a theorem of `proofs/` by the same
-- name in small letters.
use Rattle.std.specs.Prelude.{ℕ, ◌+◌, ◌-◌, ◌*◌, ◌<◌, ◌≤◌, ◌≡◌, List, ◌∷◌, ◌++◌, ◌↔◌, ◌⊎◌, length, drop, Ok, Err, Some, None}
use Rattle.refusal.specs.Refusal.{number}
use Rattle.refusal.specs.declared.Refusal.{Refusal}
use Rattle.refusal.specs.declared.Refusal.TheVariants.{ProgrammePassesEnd, ProgrammeBytesLeft, ProgrammeOtherTable}
use Rattle.base.specs.Bytes.{byte, part}
use Rattle.base.specs.Octets.{Octets}
use Rattle.section.specs.Section as section
use Rattle.section.specs.Theorems.{OwnNumber}
use Rattle.section.specs.declared.Header.{Header}
use Rattle.descriptors.specs.Walk as loops
use Rattle.programme.specs.Table.{num_content_items, content_descriptors_at, num_content_descriptors, num_descriptors, descriptors_at}
use Rattle.programme.specs.Run.{run_of}
use Rattle.programme.specs.Reading.{Reading, Step, Own, read_of, programme_of, item_of, own_run, step_of, own_of}
use Rattle.programme.specs.declared.Programme.{Programme}
use Rattle.programme.specs.declared.Loop.{Loop}
use Rattle.programme.specs.declared.Item.{Item}
use Rattle.programme_items.specs.Items as handing
use Rattle.programme_items.specs.Items.{Walk, items_from, place_after, walked}
use Rattle.programme_laws.specs.Walk.{walk, walk_of, reached, tiles, Answers, answers_to, Unrefused, Counted, items_of}
use Rattle.programme_laws.specs.Layout.{Body, FitBody, body_of, answers_of}

module _ (s : List ℕ) where
  -- the payload is a sound section, and `said` holds of its table id
  pub record SoundWith (said : ℕ → Type 0) : Type 0 where
    pub header : Header
    pub sound : section.read_of s ≡ Ok header
    pub table : said header.key.table

  -- a sound section of an NRT-IT
  abbrev pub OfNrtIt : Type 0
  OfNrtIt = SoundWith (λ id. id ≡ 0xDF)

  -- and one that holds the fields before the items: the first item's place is 17
  abbrev pub Begun : Type 0
  Begun = OfNrtIt × (17 ≤ length s)

  -- The fields before the items:
  -- any refusal but 43 and 45 is given exactly when the section's reading gives it, as one of its own: 1 to 8 and 46
  abbrev pub ReadOwn : Type 0
  ReadOwn = (r : Refusal) → ¬ (r ≡ ProgrammePassesEnd) → ¬ (r ≡ ProgrammeOtherTable) → (read_of s ≡ Err r) ↔ (section.read_of s ≡ Err r)

  -- 45 exactly when the section is sound and its table id is not the NRT-IT's
  abbrev pub Read45 : Type 0
  Read45 = (read_of s ≡ Err ProgrammeOtherTable) ↔ SoundWith (λ id. ¬ (id ≡ 0xDF))

  -- 43 exactly when it is a sound section of an NRT-IT that ends before place 17, where the fields before the items end
  abbrev pub Read43 : Type 0
  Read43 = (read_of s ≡ Err ProgrammePassesEnd) ↔ (OfNrtIt × (length s < 17))

  -- they are read exactly when it is one that holds them, and they are what its bytes say
  abbrev pub ReadExactly : Type 0
  ReadExactly = (p : Programme) → (read_of s ≡ Ok p) ↔ (Begun × (p ≡ programme_of s))

  -- the service and the time that they say are those of the key of the section's table
  abbrev pub ReadKey : Type 0
  ReadKey =
      (h : Header) (p : Programme)
      → section.read_of s ≡ Ok h
      → read_of s ≡ Ok p
      → (p.service ≡ h.key.service) × (p.start ≡ h.key.start)

  -- no number but 1 to 8, 46, 43 and 45 is given
  abbrev pub ReadRange : Type 0
  ReadRange = (r : Refusal) → read_of s ≡ Err r → OwnNumber (number r) ⊎ ((r ≡ ProgrammePassesEnd) ⊎ (r ≡ ProgrammeOtherTable))

  -- one of n counted descriptors from a place passes the end: the first `before` of them end at the place `at`, and the
  -- next one, two bytes and its content, passes the payload's end
  pub record LoopPasses (n from : ℕ) : Type 0 where
    pub before : ℕ
    pub fewer : before < n
    pub at : ℕ
    pub ends : run_of before s from ≡ Some at
    pub passes : length s < at + 2 + byte s (at + 1)

  module _ (at : ℕ) where
    -- no item can begin at the place; or a field of the item there passes the end (their places rise, so then the last one does); or one of
    -- its descriptors does
    abbrev pub ItemPasses : Type 0
    ItemPasses =
        (at < 17)
        ⊎ ((length s < content_descriptors_at s at) ⊎ LoopPasses (num_content_descriptors s at) (content_descriptors_at s at))

    -- the same of the table's own loop: none can begin at the place, its count passes the end, or one of its descriptors does
    abbrev pub OwnPasses : Type 0
    OwnPasses = (at < 17) ⊎ ((length s < at + 1) ⊎ LoopPasses (num_descriptors s at) (descriptors_at s at))

    module _ (k : ℕ) where
      -- A step to item k: any refusal but 43 is given exactly when the fields before the items are refused by it
      abbrev pub StepFirst : Type 0
      StepFirst = (r : Refusal) → ¬ (r ≡ ProgrammePassesEnd) → (step_of s at k ≡ Err r) ↔ (read_of s ≡ Err r)

      -- 43 exactly when these are refused by it; or when the section holds them and has an item k, but none can begin at the place, or the
      -- one there passes the end
      abbrev pub Step43 : Type 0
      Step43 =
          (step_of s at k ≡ Err ProgrammePassesEnd)
          ↔ ((OfNrtIt × (length s < 17)) ⊎ (Begun × (k < (programme_of s).items) × ItemPasses))

      -- over exactly when the section holds them and has no item k
      abbrev pub StepOver : Type 0
      StepOver = (step_of s at k ≡ Ok None) ↔ (Begun × ((programme_of s).items ≤ k))

      -- an item is given exactly when the section holds them and has an item k, one can begin at the place, and it does not pass the end;
      -- it is what the bytes there say
      abbrev pub StepExactly : Type 0
      StepExactly =
          (i : Item)
          → (step_of s at k ≡ Ok (Some i))
          ↔ (Begun × (k < (programme_of s).items) × (¬ ItemPasses) × (i ≡ item_of s at))

      -- no number but 1 to 8, 46, 43 and 45 is given
      abbrev pub StepRange : Type 0
      StepRange = (r : Refusal) → step_of s at k ≡ Err r → OwnNumber (number r) ⊎ ((r ≡ ProgrammePassesEnd) ⊎ (r ≡ ProgrammeOtherTable))

      -- no view leaves its own item: the name lies behind linkage, flags and its own length, the descriptors behind the name and their
      -- count, and they end the item within the payload
      abbrev pub Inside : Type 0
      Inside =
          (i : Item)
          → step_of s at k ≡ Ok (Some i)
          → (at + 7 ≤ i.nameat)
          × (i.nameat + i.named + 1 ≡ i.descriptors.place)
          × (i.descriptors.place + i.descriptors.length ≡ i.next)
          × (i.next ≤ length s)

      -- what stands before the name, the name, the count and the descriptors tile the item
      abbrev pub ItemTiling : Type 0
      ItemTiling =
          (i : Item)
          → step_of s at k ≡ Ok (Some i)
          → part s at (i.nameat - at) ++ (part s i.nameat i.named ++ (i.descriptors.count ∷ part s i.descriptors.place i.descriptors.length))
          ≡ part s at (i.next - at)

      -- an item's descriptors, walked by the step of every loop, are as many as their count says, and then the walk is over
      abbrev pub ItemWalk : Type 0
      ItemWalk =
          Octets s
          → (i : Item)
          → step_of s at k ≡ Ok (Some i)
          → Counted i.descriptors.count (loops.walk_of (part s i.descriptors.place i.descriptors.length))

      -- two answers that keep the promise of `programme_items::item_at` are equal
      abbrev pub OneStep : Type 0
      OneStep = (x y : Step) → x ≡ step_of s at k → y ≡ step_of s at k → x ≡ y

    -- The table's own loop: any refusal but 43 and 44 is given exactly when the fields before the items are refused by it
    abbrev pub OwnFirst : Type 0
    OwnFirst = (r : Refusal) → ¬ (r ≡ ProgrammePassesEnd) → ¬ (r ≡ ProgrammeBytesLeft) → (own_of s at ≡ Err r) ↔ (read_of s ≡ Err r)

    -- 43 exactly when these are refused by it; or when the section holds them, but no loop can begin at the place, or it passes the end
    abbrev pub Own43 : Type 0
    Own43 = (own_of s at ≡ Err ProgrammePassesEnd) ↔ ((OfNrtIt × (length s < 17)) ⊎ (Begun × OwnPasses))

    -- the loop ends before the payload does
    abbrev pub OwnLeaves : Type 0
    OwnLeaves = (end : ℕ) × (own_run s at ≡ Some end) × (end < length s)

    -- 44 exactly when the section holds them, a loop can begin at the place, it does not pass the end, and it ends before the payload does
    abbrev pub Own44 : Type 0
    Own44 = (own_of s at ≡ Err ProgrammeBytesLeft) ↔ (Begun × (¬ OwnPasses) × OwnLeaves)

    -- the loop is read exactly when the section holds them, one can begin at the place, it does not pass the end, and it ends where the
    -- payload does; it is then the count at the place, the place behind that, and all bytes from there on
    abbrev pub OwnExactly : Type 0
    OwnExactly =
        (l : Loop)
        → (own_of s at ≡ Ok l)
        ↔ (Begun
        × (¬ OwnPasses)
        × (own_run s at ≡ Some (length s))
        × (l ≡ record { count = byte s at; place = at + 1; length = length s - (at + 1) }))

    -- no number but 1 to 8, 46, 43, 44 and 45 is given
    abbrev pub OwnRange : Type 0
    OwnRange =
        (r : Refusal)
        → own_of s at ≡ Err r
        → OwnNumber (number r) ⊎ ((r ≡ ProgrammePassesEnd) ⊎ ((r ≡ ProgrammeBytesLeft) ⊎ (r ≡ ProgrammeOtherTable)))

    -- its descriptors, walked by the step of every loop, are as many as their count says, and then the walk is over
    abbrev pub OwnWalk : Type 0
    OwnWalk =
        Octets s → (l : Loop) → own_of s at ≡ Ok l → Counted l.count (loops.walk_of (part s l.place l.length))

    abbrev pub OneOwn : Type 0
    OneOwn = (x y : Own) → x ≡ own_of s at → y ≡ own_of s at → x ≡ y

  abbrev pub OneReading : Type 0
  OneReading = (x y : Reading) → x ≡ read_of s → y ≡ read_of s → x ≡ y

  -- the items that are read tile the bytes from the first one's place to where the walk came, also before a bad item
  abbrev pub ItemsTile : Type 0
  ItemsTile = tiles s 17 (walk_of s) ++ drop (reached 17 (walk_of s)) s ≡ drop 17 s

  -- more steps answer no more: a walk is over behind its last item, or ends at a refusal
  abbrev pub Settled : Type 0
  Settled = (j : ℕ) → walk (j + (num_content_items s + 1)) s 17 0 ≡ walk_of s

  -- where the own loop is read at the place that the walk came to, and so wherever nothing is refused, the fields before the items, the
  -- items, and the own loop with its count tile the body
  abbrev pub Tiling : Type 0
  Tiling =
      (l : Loop)
      → own_of s (reached 17 (walk_of s)) ≡ Ok l
      → part s 8 9 ++ (tiles s 17 (walk_of s) ++ (l.count ∷ part s l.place l.length)) ≡ drop 8 s

  -- the walk is short: an answer for each 8 bytes at most, and one more
  abbrev pub Short : Type 0
  Short = 8 * length (walk_of s) ≤ length s + 8

  -- a payload of bytes is read as a list exactly when it is a sound section of an NRT-IT and its body is that list's bytes, reserved bits
  -- aside
  abbrev pub Exactly : Type 0
  Exactly =
      Octets s
      → (a : Answers)
      → ((answers_to s ≡ a) × Unrefused a)
      ↔ (OfNrtIt × ((b : Body) × FitBody b × (drop 8 s ≡ body_of b) × (a ≡ answers_of b)))

-- one reading for one body: no two lists have the same bytes
abbrev pub OneList : Type 0
OneList = (b c : Body) → FitBody b → FitBody c → body_of b ≡ body_of c → b ≡ c

-- the items before a bad one stay readable: an item is read the same wherever its bytes stand at its place, whatever stands before and
-- behind them, by any number that the other section has an item of
abbrev pub Stays : List ℕ → List ℕ → Type 0
Stays s t =
    Octets s → Begun s → Begun t
    → (at k j : ℕ) (i : Item)
    → step_of s at k ≡ Ok (Some i)
    → part s at (i.next - at) ≡ part t at (i.next - at)
    → j < (programme_of t).items
    → step_of t at j ≡ Ok (Some i)

-- what a call for n items hands out are the items of a walk of n steps from there, and the place after them is the one that it comes to
abbrev pub HandedWalk : ℕ → List ℕ → ℕ → ℕ → Type 0
HandedWalk n s at k = (items_of (walk n s at k) ≡ items_from n s at k) × (reached at (walk n s at k) ≡ place_after at (items_from n s at k))

-- one answer, and one buffer after it, for one place, number and buffer
abbrev pub OneWalk : List ℕ → ℕ → ℕ → List ℕ → Type 0
OneWalk s at k fields =
    (x y : Walk) (f g : List ℕ) → walked x f ≡ handing.walk_of s at k fields → walked y g ≡ handing.walk_of s at k fields → (x ≡ y) × (f ≡ g)
