-- What is proved of the text for staff about a file: each statement is a theorem of `proofs/` by the same name in small letters.
use Rattle.std.specs.Prelude.{ℕ, ◌≤◌, ◌≡◌, true, List, ◌∷◌, ◌++◌, ◌↔◌, Ok}
use Rattle.base.specs.Octets.{Octets}
use Rattle.file.specs.Scan.{scan_of, found_at}
use Rattle.file.specs.declared.Table.{Table}
use Rattle.text.specs.Clean.{Clean}
use Rattle.programme_laws.specs.Walk.{answers_to, Unrefused}
use Rattle.programme_lines.specs.Lines.{name_line, whole_line, not_whole_line}
use Rattle.programme_section.specs.Section.{section_read}
use Rattle.programme_listing.specs.Listing.{payload_of, text_of}

-- a text ends with this line, and the newline before it ends an earlier line
abbrev pub LastLine : List ℕ → List ℕ → Type 0
LastLine line t = (u : List ℕ) × (t ≡ u ++ (10 ∷ line))

-- the bytes of a name can be told back from its line, whatever follows that
abbrev pub NameTold : Type 0
NameTold = (a b r t : List ℕ) → Octets a → Octets b → name_line a ++ r ≡ name_line b ++ t → a ≡ b

-- what the last line asks of each section is so exactly when a host that reads the fields, walks the items from the first one's place and
-- asks for the own loop where the walk came to meets no refusal
abbrev pub SectionRead : List ℕ → Type 0
SectionRead s = (section_read s ≡ true) ↔ Unrefused (answers_to s)

module _ (file : List ℕ) where
  -- no byte of the text of a file of bytes can disturb a terminal
  abbrev pub TextClean : Type 0
  TextClean = Octets file → Clean (text_of file)

  -- of the table that the file is read as:
  module _ (table : Table) where
    -- the file holds section n
    abbrev pub Held : ℕ → Type 0
    Held n = found_at table.lengths n ≡ true

    -- the bytes of section n
    abbrev pub payload : ℕ → List ℕ
    payload n = payload_of file table.starts table.lengths n

    -- section n is read to its end: such a host meets no refusal
    abbrev pub Read : ℕ → Type 0
    Read n = Unrefused (answers_to (payload n))

    -- every section from 0 to the last is held and read
    abbrev pub EachRead : Type 0
    EachRead = (n : ℕ) → n ≤ table.header.last → Held n × Read n

    -- the file is accepted, and its table id is the NRT-IT's
    abbrev pub ListFile : Type 0
    ListFile = (scan_of file ≡ Ok table) × (table.header.key.table ≡ 0xDF)

    -- the last line is whole exactly when every section from 0 to the last is held and read to its end,
    abbrev pub WholeExactly : Type 0
    WholeExactly = ListFile → LastLine whole_line (text_of file) ↔ EachRead

    -- and not whole exactly when that is not so
    abbrev pub NotWholeExactly : Type 0
    NotWholeExactly = ListFile → LastLine not_whole_line (text_of file) ↔ (¬ EachRead)
