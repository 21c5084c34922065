-- The text for staff: what one section of a programme list holds.
use Rattle.std.specs.Prelude.{ℕ, zero, suc, ◌+◌, Bool, true, false, List, [], ◌++◌, eqb, if◌then◌else◌, Ok, Err, Some, None}
use Rattle.refusal.specs.Refusal.{number}
use Rattle.refusal.specs.declared.Refusal.{Refusal}
use Rattle.refusal.specs.declared.Refusal.TheVariants.{ProgrammeBytesLeft}
use Rattle.base.specs.Bytes.{part}
use Rattle.section.specs.Section.{header_size}
use Rattle.programme.specs.Table.{first_item_at}
use Rattle.programme.specs.Run.{end_of}
use Rattle.programme.specs.Reading.{Reading, Step, Own, read_of, step_of, own_of, own_run}
use Rattle.programme_lines.specs.Lines.{refused_at, programme_line, item_text, list_line}

-- section n of the table, of bytes s
module _ (n : ℕ) (s : List ℕ) where
  -- the table's own loop, from a place; its refusal is at the place of num_descriptors, or, of 44, at the first byte left over
  abbrev pub own_place : ℕ → Refusal → ℕ
  own_place at refusal = if eqb (number refusal) (number ProgrammeBytesLeft) then end_of (own_run s at) else at

  abbrev pub own_text : ℕ → Own → List ℕ
  own_text at (Ok l) = list_line l
  own_text at (Err refusal) = refused_at n (number refusal) (own_place at refusal)

  -- item k at a place, and what follows it; a refused item ends the section
  abbrev pub step_text : ℕ → ℕ → Step → (ℕ → List ℕ) → List ℕ
  step_text k at (Ok (Some i)) follow = item_text (part s i.nameat i.named) k i ++ follow i.next
  step_text k at (Err refusal) follow = refused_at n (number refusal) at
  -- which cannot be while items are left
  step_text k at (Ok None) follow = []

  -- so many items, from item k at a place on, and the table's own loop behind them
  unfoldable pub items_text : ℕ → ℕ → ℕ → List ℕ
  items_text zero k at = own_text at (own_of s at)
  items_text (suc left) k at = step_text k at (step_of s at k) (items_text left (k + 1))

  -- the fixed fields before the items, which begin behind the header
  abbrev pub read_text : Reading → List ℕ
  read_text (Err refusal) = refused_at n (number refusal) header_size
  read_text (Ok p) = programme_line n p ++ items_text p.items 0 first_item_at

  unfoldable pub section_text : List ℕ
  section_text = read_text (read_of s)

-- whether a section is read to its end without refusal
module _ (s : List ℕ) where
  abbrev pub own_read : Own → Bool
  own_read (Ok l) = true
  own_read (Err refusal) = false

  abbrev pub step_read : Step → (ℕ → Bool) → Bool
  step_read (Ok (Some i)) follow = follow i.next
  step_read (Err refusal) follow = false
  step_read (Ok None) follow = false

  unfoldable pub items_read : ℕ → ℕ → ℕ → Bool
  items_read zero k at = own_read (own_of s at)
  items_read (suc left) k at = step_read (step_of s at k) (items_read left (k + 1))

  abbrev pub read_read : Reading → Bool
  read_read (Err refusal) = false
  read_read (Ok p) = items_read p.items 0 first_item_at

  unfoldable pub section_read : Bool
  section_read = read_read (read_of s)
