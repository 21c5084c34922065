-- What is proved of loops and of the mark, in words of the loop `s` and the place asked: first the words, then the statements, each a
-- theorem of `proofs/` by the same name in small letters.
use Rattle.std.specs.Prelude.{ℕ, ◌+◌, ◌/◌, ◌<◌, ◌≤◌, ◌≡◌, Bool, true, false, List, [], ◌∷◌, ◌↔◌, ◌⊎◌, length, Ok, Err, Some, None}
use Rattle.refusal.specs.declared.Refusal.{Refusal}
use Rattle.refusal.specs.declared.Refusal.TheVariants.{DescriptorRunsPast}
use Rattle.base.specs.Bytes.{byte, part}
use Rattle.descriptors.specs.declared.Descriptor.{Descriptor}
use Rattle.descriptors.specs.Loop.{Step, step_of, view_of, descriptor_at}
use Rattle.descriptors.specs.Answer.{step_code}
use Rattle.descriptors.specs.Letter.{matches}
use Rattle.descriptors.specs.Mark.{mark, is_trigger_tap}
use Rattle.descriptors.specs.Walk.{walk, walk_of, Unrefused, tiles}

-- d stands at a place of the loop, and ends within it
pub record Stands (s : List ℕ) (at : ℕ) (d : Descriptor) : Type 0 where
  pub here : d ≡ descriptor_at s at
  pub ends : at + 2 + byte s (at + 1) ≤ length s

-- Of the mark, by document 02, request 2:
-- the first is a letter A to Z and the second the same letter a to z: the one is as many letters after A (65) as the other
-- is after a (97), fewer than 26
pub record AcrossCase (capital small : ℕ) : Type 0 where
  pub after : ℕ
  pub within : after < 26
  pub upper : capital ≡ 65 + after
  pub lower : small ≡ 97 + after

-- a byte is the mark's, or one of the two is a letter A to Z and the other the same letter a to z
abbrev pub Matches : ℕ → ℕ → Type 0
Matches found marked = (found ≡ marked) ⊎ (AcrossCase found marked ⊎ AcrossCase marked found)

-- a descriptor of tag 0x72 and length 24 stands at a place, and its view is as `Said`
pub record Headed (Said : List ℕ → Type 0) (s : List ℕ) (at : ℕ) : Type 0 where
  pub found : Descriptor
  pub here : step_of s at ≡ Ok (Some found)
  pub tag : found.tag ≡ 0x72
  pub long : found.length ≡ 24
  pub view : Said (view_of s at)

-- each of the first 24 bytes matches the mark's; that there are no more `Headed` says
abbrev pub EachMatches : List ℕ → Type 0
EachMatches v = (k : ℕ) → k < 24 → Matches (byte v k) (byte mark k)

-- the descriptor at a place marks a trigger Tap
abbrev pub Marked : List ℕ → ℕ → Type 0
Marked = Headed EachMatches

-- and by document 01 before request 2: its view is the mark's bytes, compared exactly
abbrev pub MarkedBefore : List ℕ → ℕ → Type 0
MarkedBefore = Headed (λ v. v ≡ mark)

-- a byte is a letter A (65) to Z (90) or a (97) to z (122)
abbrev pub Letter : ℕ → Type 0
Letter b = ((65 ≤ b) × (b ≤ 90)) ⊎ ((97 ≤ b) × (b ≤ 122))

module _ (s : List ℕ) where
  module _ (at : ℕ) where
    -- the place asked is beyond the loop's end
    abbrev pub Beyond : Type 0
    Beyond = length s < at

    -- the descriptor runs past the loop, by its head or by its content
    abbrev pub RunsPast : Type 0
    RunsPast = (length s < at + 2) ⊎ (length s < at + 2 + byte s (at + 1))

    -- 19 is given exactly beyond the loop's end, or before it where the descriptor runs past
    abbrev pub Refused19 : Type 0
    Refused19 = (step_code (step_of s at) ≡ 19) ↔ (Beyond ⊎ ((at < length s) × RunsPast))

    -- no other number is given
    abbrev pub RefusedRange : Type 0
    RefusedRange = (r : Refusal) → step_of s at ≡ Err r → r ≡ DescriptorRunsPast

    -- a walk is over exactly at the loop's end
    abbrev pub Over : Type 0
    Over = (step_of s at ≡ Ok None) ↔ (at ≡ length s)

    -- a descriptor is read exactly when it stands there
    abbrev pub Reads : Type 0
    Reads = (d : Descriptor) → (step_of s at ≡ Ok (Some d)) ↔ Stands s at d

    -- the view of a descriptor is its content, as long as the descriptor says
    abbrev pub ViewWhole : Type 0
    ViewWhole = (d : Descriptor) → step_of s at ≡ Ok (Some d) → (view_of s at ≡ part s d.start d.length) × (length (view_of s at) ≡ d.length)

    -- where no descriptor is read the view is empty
    abbrev pub ViewNone : Type 0
    ViewNone = ((d : Descriptor) → step_of s at ≡ Ok (Some d) → ⊥) → view_of s at ≡ []

    -- a trigger Tap is marked exactly when the tag is 0x72, the length 24, and at each of the 24 places the byte is the
    -- mark's, or one of the two is a letter A to Z and the other the same letter a to z
    abbrev pub TapExactly : Type 0
    TapExactly = (is_trigger_tap s at ≡ true) ↔ Marked s at

    -- what was marked before request 2 is marked still
    abbrev pub TapStill : Type 0
    TapStill = MarkedBefore s at → is_trigger_tap s at ≡ true

    -- `/` (47) and `-` (45) stand in every mark, at places 11 and 16
    abbrev pub TapSeparated : Type 0
    TapSeparated = is_trigger_tap s at ≡ true → (byte (view_of s at) 11 ≡ 47) × (byte (view_of s at) 16 ≡ 45)

    -- two answers that keep one promise are equal
    abbrev pub OneStep : Type 0
    OneStep = (x y : Step) → x ≡ step_of s at → y ≡ step_of s at → x ≡ y

    abbrev pub OneView : Type 0
    OneView = (x y : List ℕ) → x ≡ view_of s at → y ≡ view_of s at → x ≡ y

    abbrev pub OneTap : Type 0
    OneTap = (x y : Bool) → x ≡ is_trigger_tap s at → y ≡ is_trigger_tap s at → x ≡ y

    -- a walk has no more answers than steps
    abbrev pub Few : Type 0
    Few = (k : ℕ) → length (walk k s at) ≤ k

  -- where no step is refused, heads and views, joined in order, are the loop
  abbrev pub Tiling : Type 0
  Tiling = Unrefused (walk_of s) → tiles s (walk_of s) ≡ s

  -- a walk of a loop is over or refused by then: more steps answer no more
  abbrev pub Settled : Type 0
  Settled = (j : ℕ) → walk (j + (length s / 2 + 1)) s 0 ≡ walk_of s

-- two bytes match exactly when they are one byte, or one letter in its two cases
abbrev pub MatchesExactly : Type 0
MatchesExactly = (found marked : ℕ) → (matches found marked ≡ true) ↔ Matches found marked

-- no other byte gains an equal: of two different bytes that match each is a letter
abbrev pub LettersAlone : Type 0
LettersAlone = (found marked : ℕ) → matches found marked ≡ true → (found ≡ marked → ⊥) → Letter found × Letter marked

-- `/` (47), `-` (45) and a byte of 128 or more match themselves alone, on either side; a carriage return (13) is no `-`,
-- `@` (64) no backquote (96), `[` (91) no `{` (123) and A (65) no b (98)
pub record Apart : Type 0 where
  pub either : (a b : ℕ) → matches a b ≡ matches b a
  pub slash : (b : ℕ) → (matches b 47 ≡ true) ↔ (b ≡ 47)
  pub hyphen : (b : ℕ) → (matches b 45 ≡ true) ↔ (b ≡ 45)
  pub high : (a b : ℕ) → 128 ≤ b → (matches a b ≡ true) ↔ (a ≡ b)
  pub carriage : matches 13 45 ≡ false
  pub atsign : matches 64 96 ≡ false
  pub bracket : matches 91 123 ≡ false
  pub another : matches 65 98 ≡ false

-- the mark has 24 bytes
abbrev pub MarkLong : Type 0
MarkLong = length mark ≡ 24

-- the request's own station is heard: `Application/ATSC-Trigger`
abbrev pub StationMarked : Type 0
StationMarked =
    is_trigger_tap
    (0x72 ∷ 24
    ∷ 65 ∷ 112 ∷ 112 ∷ 108 ∷ 105 ∷ 99 ∷ 97 ∷ 116 ∷ 105 ∷ 111 ∷ 110 ∷ 47
    ∷ 65 ∷ 84 ∷ 83 ∷ 67 ∷ 45 ∷ 84 ∷ 114 ∷ 105 ∷ 103 ∷ 103 ∷ 101 ∷ 114 ∷ [])
    0
    ≡ true

-- and so is one that writes each letter as a capital: `APPLICATION/ATSC-TRIGGER`
abbrev pub CapitalsMarked : Type 0
CapitalsMarked =
    is_trigger_tap
    (0x72 ∷ 24
    ∷ 65 ∷ 80 ∷ 80 ∷ 76 ∷ 73 ∷ 67 ∷ 65 ∷ 84 ∷ 73 ∷ 79 ∷ 78 ∷ 47
    ∷ 65 ∷ 84 ∷ 83 ∷ 67 ∷ 45 ∷ 84 ∷ 82 ∷ 73 ∷ 71 ∷ 71 ∷ 69 ∷ 82 ∷ [])
    0
    ≡ true

-- an empty loop has no descriptor
abbrev pub EmptyLoop : Type 0
EmptyLoop = walk_of [] ≡ Ok None ∷ []
