-- An item's ten numbers are as narrow as its fields, and tell it.
--   narrow     of the item at a place
--   back       it comes back out of them
use mathlib.Core.Path.{◌≡◌, sym}
use mathlib.Core.Bool.{Bool, true, false}
use mathlib.Core.List.{List, ◌++◌}
use Prim.Native.Nat.{ℕ, ◌+◌, ◌-◌, ◌^◌, ◌<◌, ◌≤◌}
use native.Mathlib.Omega.{arith}
use Rattle.base.specs.Octets.{Octets}
use Rattle.std.specs.Prelude.{Ok, Some}
use Rattle.programme.specs.Field.{number, only, low}
use Rattle.programme.specs.Table.{flags, playback_length_at, playback_delay_at, expiration_at, content_name_length, content_name_at, content_descriptors_at, num_content_descriptors_at}
use Rattle.programme.specs.Table.{playback_length_included, playback_delay_included, expiration_included}
use Rattle.programme.specs.Reading.{item_at}
use Rattle.programme_items.specs.Items.{numbers_of, item_back}
use Rattle.programme_items.specs.Parts.{Narrow}
use Rattle.programme.specs.declared.Item.{Item}
use Rattle.programme.proofs.Numbers.{below}
use Rattle.programme.proofs.Items.{item_to}
use Rattle.programme.proofs.Within.{item-stands}

only_below : (b : Bool) (n m : ℕ) → n < m → only b n < m
only_below true n m h = h
only_below false n m h = omega arith

module _ (s : List ℕ) (at end : ℕ) (o : Octets s) (rest : List ℕ) where
  four_below : (p : ℕ) → number s p 4 < 2 ^ 32
  four_below p = below s p o 4

  flags-below : flags s at < 2 ^ 16
  flags-below = omega (arith, below s (at + 4) o 2)

  seconds-below : (p : ℕ) → low s p 3 20 < 2 ^ 32
  seconds-below p = omega arith

  narrow-to : content_descriptors_at s at ≤ end → Narrow (numbers_of (item_to s at end) ++ rest)
  narrow-to l =
      record {
        ten = omega arith;
        linkage = four_below at;
        flags = flags-below;
        playback = only_below (playback_length_included s at) _ _ (seconds-below (playback_length_at s at));
        delay = only_below (playback_delay_included s at) _ _ (seconds-below (playback_delay_at s at));
        expires = only_below (expiration_included s at) (low s (expiration_at s at) 4 32) (2 ^ 32) (omega arith);
        count = o (num_content_descriptors_at s at);
        name = omega arith;
        descriptors = l;
      }

-- the item at a place
pub narrow : (s : List ℕ) (at : ℕ) → Octets s → (i : Item) → Ok (Some i) ≡ item_at s at → (rest : List ℕ) → Narrow (numbers_of i ++ rest)
narrow s at o i e rest =
    let t = item-stands s at i (sym e) in rw t.says (narrow-to s at t.end o rest t.low)

pub back : (s : List ℕ) (at : ℕ) (i : Item) → Ok (Some i) ≡ item_at s at → (rest : List ℕ) → item_back (numbers_of i ++ rest) ≡ i
back s at i e rest = let t = item-stands s at i (sym e) in rw t.says (told s at t.end rest)
  where
    told : (s : List ℕ) (at end : ℕ) (rest : List ℕ) → item_back (numbers_of (item_to s at end) ++ rest) ≡ item_to s at end
    told s at end rest =
        let z : content_descriptors_at s at - 1 - content_name_at s at ≡ content_name_length s at = omega arith in rw z
