-- What a log says of the table with a key, by the calls and their answers alone. A log has its latest entry first.
use Rattle.std.specs.Prelude.{ℕ, ◌<◌, ◌≡◌, List, [], ◌∷◌, Bool, true, false, ◌&&◌, ◌||◌, eqb, if◌then◌else◌, Result, Ok, Err}
use Rattle.refusal.specs.declared.Refusal.{Refusal}
use Rattle.section.specs.Section.{version, section_number, last_section_number}
use Rattle.berth.specs.Berth.{places}
use Rattle.key.specs.Key.{same_key}
use Rattle.key.specs.declared.Key.{Key}
use Rattle.shelf.specs.Record.{key_of}
use Rattle.file.specs.Scan.{scan_of}
use Rattle.file.specs.declared.Table.{Table}
use Rattle.shelf_laws.specs.File.{carries, section_in}
use Rattle.shelf_laws.specs.Named.{key_in}
use Rattle.shelf_laws.specs.Answers.{begins, accepted, is_done, frees}
use Rattle.shelf_laws.specs.History.{Entry, offered, loaded, released, asked}

-- the table of a scan: whether it has that key, its version, its last number
abbrev pub table_has : Key → Result Table Refusal → Bool
table_has key (Ok t) = same_key (key_of t.header) key
table_has key (Err r) = false

abbrev pub table_version : Result Table Refusal → ℕ
table_version (Ok t) = t.header.version
table_version (Err r) = 0

abbrev pub table_last : Result Table Refusal → ℕ
table_last (Ok t) = t.header.last
table_last (Err r) = 0

-- the file's table is the one with that key
abbrev pub loads : Key → List ℕ → Bool
loads key file = table_has key (scan_of file)

-- the version in an entry, the last number, and the bytes of section n
abbrev pub version_of : Entry → ℕ
version_of (offered payload said) = version payload
version_of (loaded file said) = table_version (scan_of file)
version_of (released k said) = 0
version_of (asked question said) = 0

abbrev pub last_of : Entry → ℕ
last_of (offered payload said) = last_section_number payload
last_of (loaded file said) = table_last (scan_of file)
last_of (released k said) = 0
last_of (asked question said) = 0

abbrev pub bytes_of : Entry → ℕ → List ℕ
bytes_of (offered payload said) n = payload
bytes_of (loaded file said) n = section_in file n
bytes_of (released k said) n = []
bytes_of (asked question said) n = []

module _ (key : Key) where
  -- the entry was answered as one that begins the table: a hearing while unheld, change of version or load; `offer_of` and `load_of` say
  -- when that is answered
  abbrev pub beginning : Entry → Bool
  beginning (offered payload said) = same_key (key_in payload) key && begins said
  beginning (loaded file said) = loads key file && is_done said
  beginning (released k said) = false
  beginning (asked question said) = false

  -- the entry accepts or loads section n of the table
  abbrev pub accepting : ℕ → Entry → Bool
  accepting n (offered payload said) = same_key (key_in payload) key && (accepted said && eqb n (section_number payload))
  accepting n (loaded file said) = loads key file && (is_done said && carries file n)
  accepting n (released k said) = false
  accepting n (asked question said) = false

  -- the entry releases the table
  abbrev pub releasing : Entry → Bool
  releasing (offered payload said) = false
  releasing (loaded file said) = false
  releasing (released k said) = same_key k key && frees said
  releasing (asked question said) = false

  -- the table began, and was not released since
  abbrev pub held_by : List Entry → Bool
  held_by [] = false
  held_by (e ∷ log) = beginning e || (if releasing e then false else held_by log)

  -- section n was accepted or loaded since the table last began
  abbrev pub since : List Entry → ℕ → Bool
  since [] n = false
  since (e ∷ log) n = accepting n e || (if beginning e then false else since log n)

  -- the version with which the table last began
  abbrev pub version_since : List Entry → ℕ
  version_since [] = 0
  version_since (e ∷ log) = if beginning e then version_of e else version_since log

  -- the last number with which the table last began
  abbrev pub last_since : List Entry → ℕ
  last_since [] = 0
  last_since (e ∷ log) = if beginning e then last_of e else last_since log

  -- the bytes with which section n was last accepted or loaded
  abbrev pub bytes_since : List Entry → ℕ → List ℕ
  bytes_since [] n = []
  bytes_since (e ∷ log) n = if accepting n e then bytes_of e n else bytes_since log n

-- four tables with different keys are held
pub record Full (log : List Entry) : Type 0 where
  pub key : ℕ → Key
  pub held : (n : ℕ) → n < places → held_by (key n) log ≡ true
  pub different : (m n : ℕ) → m < n → n < places → ¬ (key m ≡ key n)
