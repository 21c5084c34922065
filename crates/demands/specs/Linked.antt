-- What the theorems of this crate and of clock_demands speak of is the boundary, each function of which `khumsafil_c` exports to C under the same promise. `Learnt` is the promise of such a function as the checker
-- holds it, of its arguments `a`, its answer `z` and its arguments at exit `e`; each says the definition that the histories are made of, or that
-- a theorem asks after one: the lamp's question, a place's and a file's change nothing, and are not among a history's calls. None of these functions asks anything of its host beyond its types. What it is lent to read only stays as it was, since nothing is written through such a loan.
-- The theorems are in proofs/Linked: each promise is its own proof.
use Rattle.std.specs.Prelude.{◌≡◌}
use Rattle.answers.specs.Answers.{lent, out}
use Rattle.shelf_begin.specs.Answer.{begin_lent}
use Rattle.shelf_offer.specs.Answer.{offer_lent}
use Rattle.shelf_ask.specs.Answer.{whole_lent, complete_lent, missing_lent, copy_lent, table_lent}
use Rattle.shelf_release.specs.Answer.{release_lent}
use Rattle.shelf_save.specs.Answer.{save_lent}
use Rattle.shelf_load.specs.Answer.{load_lent}
use Rattle.file_table.specs.Answer.{file_table_lent}
use Rattle.writer.specs.Answer.{label, section_lent}
use Rattle.clock_answers.specs.Calls.{fresh_call, offer_call, move_call, time_call, state_call}
use Rattle.key.specs.Key.{key_from}
use Rattle.khumsafil.proofs.shelves.khumsafil_raw_shelf_begin.Reads as shelf-begin
use Rattle.khumsafil.proofs.shelves.khumsafil_raw_shelf_offer.Reads as shelf-offer
use Rattle.khumsafil.proofs.shelves.khumsafil_raw_shelf_complete.Reads as shelf-complete
use Rattle.khumsafil.proofs.shelves.khumsafil_raw_shelf_is_complete.Reads as shelf-is-complete
use Rattle.khumsafil.proofs.shelves.khumsafil_raw_shelf_lowest_missing.Reads as shelf-missing
use Rattle.khumsafil.proofs.shelves.khumsafil_raw_shelf_table.Reads as shelf-table
use Rattle.khumsafil.proofs.shelves.khumsafil_raw_shelf_copy_section.Reads as shelf-copy
use Rattle.khumsafil.proofs.shelves.khumsafil_raw_shelf_release.Reads as shelf-release
use Rattle.khumsafil.proofs.shelves.khumsafil_raw_shelf_save.Reads as shelf-save
use Rattle.khumsafil.proofs.shelves.khumsafil_raw_shelf_load.Reads as shelf-load
use Rattle.khumsafil.proofs.files.khumsafil_raw_file_table.Reads as file-table
use Rattle.khumsafil.proofs.writers.khumsafil_raw_writer_section.Reads as writer-section
use Rattle.khumsafil.proofs.clocks.khumsafil_raw_clock_fresh.Reads as clock_fresh
use Rattle.khumsafil.proofs.clocks.khumsafil_raw_clock_offer.Reads as clock_offer
use Rattle.khumsafil.proofs.clocks.khumsafil_raw_clock_move.Reads as clock_move
use Rattle.khumsafil.proofs.clocks.khumsafil_raw_clock_time.Reads as clock_time
use Rattle.khumsafil.proofs.clocks.khumsafil_raw_clock_state.Reads as clock_state

-- record, store
abbrev pub BeginLinked : Type 0
BeginLinked =
    (κs : _) (a : _) (z : _) (e : _) → shelf-begin.Learnt κs a z e
    → lent z e.0.now e.1.0.now ≡ begin_lent a.0.now a.1.0.now

-- record, store, payload
abbrev pub OfferLinked : Type 0
OfferLinked =
    (κs : _) (a : _) (z : _) (e : _) → shelf-offer.Learnt κs a z e
    → lent z e.0.now e.1.0.now ≡ offer_lent a.0.now a.1.0.now a.1.1.0.now

-- record, store, table, extension, service, start
abbrev pub CompleteLinked : Type 0
CompleteLinked =
    (κs : _) (a : _) (z : _) (e : _) → shelf-complete.Learnt κs a z e
    → z ≡ whole_lent a.0.now a.1.0.now (key_from a.1.1.0 a.1.1.1.0 a.1.1.1.1.0 a.1.1.1.1.1.0)

-- record, store, table, extension, service, start
abbrev pub LampLinked : Type 0
LampLinked =
    (κs : _) (a : _) (z : _) (e : _) → shelf-is-complete.Learnt κs a z e
    → z ≡ complete_lent a.0.now a.1.0.now (key_from a.1.1.0 a.1.1.1.0 a.1.1.1.1.0 a.1.1.1.1.1.0)

-- record, store, table, extension, service, start
abbrev pub MissingLinked : Type 0
MissingLinked =
    (κs : _) (a : _) (z : _) (e : _) → shelf-missing.Learnt κs a z e
    → z ≡ missing_lent a.0.now a.1.0.now (key_from a.1.1.0 a.1.1.1.0 a.1.1.1.1.0 a.1.1.1.1.1.0)

-- record, store, place, fields
abbrev pub TableLinked : Type 0
TableLinked =
    (κs : _) (a : _) (z : _) (e : _) → shelf-table.Learnt κs a z e
    → out z e.1.1.1.0.now ≡ table_lent a.0.now a.1.0.now a.1.1.0 a.1.1.1.0.now

-- record, store, table, extension, service, start, number, out
abbrev pub CopyLinked : Type 0
CopyLinked =
    (κs : _) (a : _) (z : _) (e : _) → shelf-copy.Learnt κs a z e
    → out z e.1.1.1.1.1.1.1.0.now
    ≡ copy_lent a.0.now a.1.0.now (key_from a.1.1.0 a.1.1.1.0 a.1.1.1.1.0 a.1.1.1.1.1.0) a.1.1.1.1.1.1.0 a.1.1.1.1.1.1.1.0.now

-- record, store, table, extension, service, start
abbrev pub ReleaseLinked : Type 0
ReleaseLinked =
    (κs : _) (a : _) (z : _) (e : _) → shelf-release.Learnt κs a z e
    → lent z e.0.now e.1.0.now ≡ release_lent a.0.now a.1.0.now (key_from a.1.1.0 a.1.1.1.0 a.1.1.1.1.0 a.1.1.1.1.1.0)

-- record, store, table, extension, service, start, out
abbrev pub SaveLinked : Type 0
SaveLinked =
    (κs : _) (a : _) (z : _) (e : _) → shelf-save.Learnt κs a z e
    → out z e.1.1.1.1.1.1.0.now
    ≡ save_lent a.0.now a.1.0.now (key_from a.1.1.0 a.1.1.1.0 a.1.1.1.1.0 a.1.1.1.1.1.0) a.1.1.1.1.1.1.0.now

-- record, store, file
abbrev pub LoadLinked : Type 0
LoadLinked =
    (κs : _) (a : _) (z : _) (e : _) → shelf-load.Learnt κs a z e
    → lent z e.0.now e.1.0.now ≡ load_lent a.0.now a.1.0.now a.1.1.0.now

-- file, fields
abbrev pub FileTableLinked : Type 0
FileTableLinked =
    (κs : _) (a : _) (z : _) (e : _) → file-table.Learnt κs a z e
    → out z e.1.0.now ≡ file_table_lent a.0.now a.1.0.now

-- table, extension, version, body, k, out
abbrev pub SectionLinked : Type 0
SectionLinked =
    (κs : _) (a : _) (z : _) (e : _) → writer-section.Learnt κs a z e
    → out z e.1.1.1.1.1.0.now
    ≡ section_lent (label a.0 a.1.0 a.1.1.0) a.1.1.1.0.now a.1.1.1.1.0 a.1.1.1.1.1.0.now

-- record
abbrev pub ClockFreshLinked : Type 0
ClockFreshLinked =
    (κs : _) (a : _) (z : _) (e : _) → clock_fresh.Learnt κs a z e
    → (z ≡ (fresh_call a.0.now).answer) × (e.0.now ≡ (fresh_call a.0.now).words)

-- record, application, event, action, time
abbrev pub ClockOfferLinked : Type 0
ClockOfferLinked =
    (κs : _) (a : _) (z : _) (e : _) → clock_offer.Learnt κs a z e
    → (z ≡ (offer_call a.0.now a.1.0 a.1.1.0 a.1.1.1.0 a.1.1.1.1.0).answer)
    × (e.0.now ≡ (offer_call a.0.now a.1.0 a.1.1.0 a.1.1.1.0 a.1.1.1.1.0).words)

-- record, to
abbrev pub ClockMoveLinked : Type 0
ClockMoveLinked =
    (κs : _) (a : _) (z : _) (e : _) → clock_move.Learnt κs a z e
    → (z ≡ (move_call a.0.now a.1.0).answer) × (e.0.now ≡ (move_call a.0.now a.1.0).words)

-- record
abbrev pub ClockTimeLinked : Type 0
ClockTimeLinked =
    (κs : _) (a : _) (z : _) (e : _) → clock_time.Learnt κs a z e
    → z ≡ time_call a.0.now

-- record, application
abbrev pub ClockStateLinked : Type 0
ClockStateLinked =
    (κs : _) (a : _) (z : _) (e : _) → clock_state.Learnt κs a z e
    → z ≡ state_call a.0.now a.1.0

-- so of each: the shelf's ten calls, a file's table, the writer's section, the clock's five calls
pub record Linked : Type 0 where
  pub begin : BeginLinked
  pub offer : OfferLinked
  pub complete : CompleteLinked
  pub lamp : LampLinked
  pub missing : MissingLinked
  pub table : TableLinked
  pub copy : CopyLinked
  pub release : ReleaseLinked
  pub save : SaveLinked
  pub load : LoadLinked
  pub file-table : FileTableLinked
  pub section : SectionLinked
  pub clock_fresh : ClockFreshLinked
  pub clock_offer : ClockOfferLinked
  pub clock_move : ClockMoveLinked
  pub clock_time : ClockTimeLinked
  pub clock_state : ClockStateLinked
