-- Document 01, "A section": the layout of the eight header bytes, high bit first, and the numbers 1 to 8. Document 02, request 4: the key, and 46.
use Rattle.std.specs.Prelude.{ℕ, ◌+◌, ◌-◌, ◌/◌, ◌%◌, ◌*◌, List, [], ◌∷◌, ◌||◌, ◌&&◌, length, ltb, eqb, if◌then◌else◌, Result, Ok, Err}
use Rattle.refusal.specs.declared.Refusal.{Refusal}
use Rattle.refusal.specs.declared.Refusal.TheVariants.{PayloadShort, WrongIndicator, LengthOutOfRange, LongerThanPayload, ShorterThanPayload, NumberAboveLast, LastAbove15, NotCurrent, KeyShort}
use Rattle.base.specs.Bytes.{byte, word}
use Rattle.base.specs.Choice.{Row, ◌if◌, first}
use Rattle.key.specs.Key.{nrt_it, key_from}
use Rattle.key.specs.declared.Key.{Key}
use Rattle.section.specs.declared.Header.{Header}

-- the bytes of the header, the highest section length, and the highest last section number
abbrev pub header_size : ℕ
header_size = 8

abbrev pub highest_length : ℕ
highest_length = 1021

abbrev pub highest_last : ℕ
highest_last = 15

-- so a section has at most 1,024 bytes, and a table 16 sections
abbrev pub largest_section : ℕ
largest_section = 3 + highest_length

abbrev pub most_sections : ℕ
most_sections = highest_last + 1

-- table id 8
abbrev pub table_id : List ℕ → ℕ
table_id s = byte s 0

-- syntax indicator 1
abbrev pub syntax_indicator : List ℕ → ℕ
syntax_indicator s = byte s 1 / 128

-- private indicator 1; then reserved 2
abbrev pub private_indicator : List ℕ → ℕ
private_indicator s = byte s 1 / 64 % 2

-- section length 12: the bytes after itself
abbrev pub section_length : List ℕ → ℕ
section_length s = byte s 1 % 16 * 256 + byte s 2

-- so the whole section is 3 more
abbrev pub section_size : List ℕ → ℕ
section_size s = 3 + section_length s

-- table id extension 16
abbrev pub table_id_extension : List ℕ → ℕ
table_id_extension s = word s 3

-- reserved 2; then version 5
abbrev pub version : List ℕ → ℕ
version s = byte s 5 / 2 % 32

-- current/next 1
abbrev pub current_next : List ℕ → ℕ
current_next s = byte s 5 % 2

-- section number 8
abbrev pub section_number : List ℕ → ℕ
section_number s = byte s 6

-- last section number 8
abbrev pub last_section_number : List ℕ → ℕ
last_section_number s = byte s 7

-- what follows the header of an NRT-IT (source document 004, Table 6.5): service_id 16
abbrev pub service_id : List ℕ → ℕ
service_id s = word s 8

-- time_span_start 32
abbrev pub time_span_start : List ℕ → ℕ
time_span_start s = word s 10 * 65536 + word s 12

-- so many bytes of an NRT-IT hold its key
abbrev pub key_size : ℕ
key_size = 14

-- what is so of an NRT-IT, and 0 of every other table
unfoldable pub of_list : ℕ → ℕ → ℕ
of_list table n = if eqb table nrt_it then n else 0

-- the key of a section's table
abbrev pub key_in : List ℕ → Key
key_in s = key_from (table_id s) (table_id_extension s) (service_id s) (time_span_start s)

-- "Numbers of refusal", 1 to 8; then 46, an NRT-IT too short to hold its key
abbrev pub faults : List ℕ → List Row
faults s =
    PayloadShort if ltb (length s) header_size
    ∷ WrongIndicator if (eqb (syntax_indicator s) 1 || eqb (private_indicator s) 0)
    ∷ LengthOutOfRange if (ltb (section_length s) 5 || ltb highest_length (section_length s))
    ∷ LongerThanPayload if ltb (length s) (section_size s)
    ∷ ShorterThanPayload if ltb (section_size s) (length s)
    ∷ NumberAboveLast if ltb (last_section_number s) (section_number s)
    ∷ LastAbove15 if ltb highest_last (last_section_number s)
    ∷ NotCurrent if eqb (current_next s) 0
    ∷ KeyShort if (eqb (table_id s) nrt_it && ltb (length s) key_size)
    ∷ []

-- the first of them that applies, where one does
unfoldable pub fault_of : List ℕ → Result (Unit {0}) Refusal
fault_of s = first Err (faults s) (Ok tt)

-- what a sound section says; the body follows the header
abbrev pub header_of : List ℕ → Header
header_of s =
    record {
      key = key_in s;
      version = version s;
      number = section_number s;
      last = last_section_number s;
      start = header_size;
      length = section_size s - header_size;
    }

-- the reading of a payload
unfoldable pub read_of : List ℕ → Result Header Refusal
read_of s = first Err (faults s) (Ok (header_of s))
