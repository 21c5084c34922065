-- What an answer says of the table.
use Rattle.std.specs.Prelude.{Bool, true, false, is_ok, Result, Ok, Err}
use Rattle.refusal.specs.declared.Refusal.{Refusal}
use Rattle.shelf_offer.specs.declared.Offered.{Offered}

-- the answer says that the section begins the table: began, for a key that was not held, or began again, for another version
abbrev pub begins : Result Offered Refusal → Bool
begins (Ok Offered.Began) = true
begins (Ok Offered.BeganAgain) = true
begins (Ok Offered.Added) = false
begins (Ok Offered.Repeat) = false
begins (Err r) = false

-- the section belongs to the table as it stands: it is added, or a repeat
abbrev pub joins : Result Offered Refusal → Bool
joins (Ok Offered.Began) = false
joins (Ok Offered.BeganAgain) = false
joins (Ok Offered.Added) = true
joins (Ok Offered.Repeat) = true
joins (Err r) = false

-- the section's bytes are put into its berth
abbrev pub stores : Result Offered Refusal → Bool
stores (Ok Offered.Began) = true
stores (Ok Offered.BeganAgain) = true
stores (Ok Offered.Added) = true
stores (Ok Offered.Repeat) = false
stores (Err r) = false

-- the section is accepted
abbrev pub accepted : Result Offered Refusal → Bool
accepted (Ok what) = true
accepted (Err r) = false

-- the table is loaded
abbrev pub is_done : Result (Unit {0}) Refusal → Bool
is_done = is_ok

-- the table's place is freed
abbrev pub frees : Result (Unit {0}) Refusal → Bool
frees = is_ok
