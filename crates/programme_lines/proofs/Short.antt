-- How long the lines are, with thirteen digits for every number but a flag.
--   refused-short, programme-short, list-short     of a section
--   item-short                                     of an item: 160 bytes, 4 for each byte of its name, and 20 for each byte of the fields included
use mathlib.Core.List.{List}
use Prim.Native.Nat.{ℕ, ◌+◌, ◌*◌, ◌/◌, ◌%◌, ◌≤◌}
use native.Mathlib.Omega.{arith}
use lib.ListN.{length, length-append}
use Rattle.base.specs.Bits.{bit}
use Rattle.base.proofs.Cases.{by}
use Rattle.text.specs.Words.{decimal}
use Rattle.text.proofs.Short.{decimal-most, decimal-one, escaped-short}
use Rattle.programme.specs.Field.{only}
use Rattle.programme.specs.declared.Programme.{Programme}
use Rattle.programme.specs.declared.Loop.{Loop}
use Rattle.programme.specs.declared.Item.{Item}
use Rattle.programme_lines.specs.Lines.{refused_at, programme_line, item_line, flags_line, playback_line, delay_line, expires_line, size_line, name_line, descriptors_line, list_line, item_text}

pub refused-short : (section number place : ℕ) → length (refused_at section number place) ≤ 64
unfolding refused_at
refused-short section number place = simp length-append (omega (arith, decimal-most section, decimal-most number, decimal-most place))

pub programme-short : (section : ℕ) (p : Programme) → length (programme_line section p) ≤ 106
unfolding programme_line
programme-short section p =
    simp length-append
    (omega (
      arith,
      decimal-most section,
      decimal-most p.service,
      decimal-most p.start,
      decimal-most p.minutes,
      decimal-most p.items,
    ))

pub list-short : (l : Loop) → length (list_line l) ≤ 64
unfolding list_line
list-short l = simp length-append (omega (arith, decimal-most l.count, decimal-most l.length))

item-line-short : (k linkage : ℕ) → length (item_line k linkage) ≤ 41
unfolding item_line
item-line-short k linkage = simp length-append (omega (arith, decimal-most k, decimal-most linkage))

flag-short : (flags power : ℕ) → length (decimal (flags / power % 2)) ≤ 1
flag-short flags power = decimal-one (flags / power % 2) (omega arith)

flags-short : (flags : ℕ) → length (flags_line flags) ≤ 65
unfolding flags_line
flags-short flags =
    simp length-append
    (omega (
      arith,
      flag-short flags 512,
      flag-short flags 256,
      flag-short flags 128,
      flag-short flags 64,
      flag-short flags 2,
      flag-short flags 1,
    ))

module _ (i : Item) where
  playback-short : length (playback_line i) ≤ 20 * only (bit i.flags 5) 3
  unfolding playback_line
  playback-short = by (bit i.flags 5) (λ t. rw t (simp length-append (omega (arith, decimal-most i.playback)))) (λ f. rw f (omega arith))

  delay-short : length (delay_line i) ≤ 20 * only (bit i.flags 4) 3
  unfolding delay_line
  delay-short = by (bit i.flags 4) (λ t. rw t (simp length-append (omega (arith, decimal-most i.delay)))) (λ f. rw f (omega arith))

  expires-short : length (expires_line i) ≤ 20 * only (bit i.flags 3) 4
  unfolding expires_line
  expires-short = by (bit i.flags 3) (λ t. rw t (simp length-append (omega (arith, decimal-most i.expires)))) (λ f. rw f (omega arith))

  size-short : length (size_line i) ≤ 20 * only (bit i.flags 2) 5
  unfolding size_line
  size-short = by (bit i.flags 2) (λ t. rw t (simp length-append (omega (arith, decimal-most i.size)))) (λ f. rw f (omega arith))

name-short : (name : List ℕ) → length (name_line name) ≤ 6 + 4 * length name
unfolding name_line
name-short name = simp length-append (omega (arith, escaped-short name))

descriptors-short : (l : Loop) → length (descriptors_line l) ≤ 46
unfolding descriptors_line
descriptors-short l = simp length-append (omega (arith, decimal-most l.count, decimal-most l.length))

pub item-short : (name : List ℕ) (k : ℕ) (i : Item)
    → length (item_text name k i)
    ≤ 160 + 4 * length name
    + 20 * (only (bit i.flags 5) 3 + only (bit i.flags 4) 3 + only (bit i.flags 3) 4 + only (bit i.flags 2) 5)
unfolding item_text
item-short name k i =
    simp length-append
    (omega (
      arith,
      item-line-short k i.linkage,
      flags-short i.flags,
      playback-short i,
      delay-short i,
      expires-short i,
      size-short i,
      name-short name,
      descriptors-short i.descriptors,
    ))
