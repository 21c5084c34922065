-- Document 02, request 3: an NRT-IT section read by Table 6.5 of source document 004, and its refusals. "43 a field or loop passes
-- the end, 44 bytes left over, 45 table id not the NRT-IT's; the section's 1 to 8 come first, then 45, the others from the left."
-- Request 4: 46, which the section's reading gives, comes after its 8 and before 45.
use Rattle.std.specs.Prelude.{ℕ, ◌-◌, Bool, not, List, [], ◌∷◌, ltb, leb, eqb, length, if◌then◌else◌, Result, Ok, Err, Option, Some, None}
use Rattle.refusal.specs.declared.Refusal.{Refusal}
use Rattle.refusal.specs.declared.Refusal.TheVariants.{ProgrammePassesEnd, ProgrammeBytesLeft, ProgrammeOtherTable}
use Rattle.base.specs.Choice.{Row, ◌if◌, first}
use Rattle.section.specs.Section as section
use Rattle.section.specs.declared.Header.{Header}
use Rattle.programme.specs.Table.{nrt_it, service_id_end, time_span_start_end, time_span_length_end, first_item_at}
use Rattle.programme.specs.Table.{service_id, time_span_start, time_span_length, num_content_items}
use Rattle.programme.specs.Table.{content_linkage, flags_at, flags, playback_length_at, playback_length, playback_delay_at, playback_delay}
use Rattle.programme.specs.Table.{expiration_at, expiration, content_size_at, content_size, content_name_length_at, content_name_length, content_name_at}
use Rattle.programme.specs.Table.{num_content_descriptors_at, num_content_descriptors, content_descriptors_at, num_descriptors, descriptors_at}
use Rattle.programme.specs.Run.{Run, run_of, passes, end_of}
use Rattle.programme.specs.declared.Programme.{Programme}
use Rattle.programme.specs.declared.Loop.{Loop}
use Rattle.programme.specs.declared.Item.{Item}

-- what a reading, a step to an item, and the table's own loop answer. A step finds an item, or none of that number
abbrev pub Reading : Type 0
Reading = Result Programme Refusal

abbrev pub Step : Type 0
Step = Result (Option Item) Refusal

abbrev pub Own : Type 0
Own = Result Loop Refusal

-- a field that goes up to a place passes the end
abbrev pub cut : List ℕ → ℕ → Bool
cut s end = ltb (length s) end

-- 45; then 43, field by field from the left: service_id, time_span_start, time_span_length, num_content_items_in_section. A section that 46 does
-- not refuse holds the first two
abbrev pub faults : List ℕ → ℕ → List Row
faults s table =
    ProgrammeOtherTable if not (eqb table nrt_it)
    ∷ ProgrammePassesEnd if cut s service_id_end
    ∷ ProgrammePassesEnd if cut s time_span_start_end
    ∷ ProgrammePassesEnd if cut s time_span_length_end
    ∷ ProgrammePassesEnd if cut s first_item_at
    ∷ []

-- the fixed fields before the items
abbrev pub programme_of : List ℕ → Programme
programme_of s = record { service = service_id s; start = time_span_start s; minutes = time_span_length s; items = num_content_items s }

-- the section's own numbers, 1 to 8 and 46, come first
abbrev pub read_by : List ℕ → Result Header Refusal → Reading
read_by s (Err r) = Err r
read_by s (Ok h) = first Err (faults s h.key.table) (Ok (programme_of s))

-- the reading of a payload, up to its items
unfoldable pub read_of : List ℕ → Reading
read_of s = read_by s (section.read_of s)

-- the descriptors of the item at a place, and the table's own from a place
abbrev pub item_run : List ℕ → ℕ → Run
item_run s at = run_of (num_content_descriptors s at) s (content_descriptors_at s at)

abbrev pub own_run : List ℕ → ℕ → Run
own_run s at = run_of (num_descriptors s at) s (descriptors_at s at)

-- no item, and no loop behind the items, begins before the place of the first item
abbrev pub early : ℕ → Bool
early at = ltb at first_item_at

-- 43: the item at a place, field by field from the left, and its loop
abbrev pub item_faults : List ℕ → ℕ → List Row
item_faults s at =
    ProgrammePassesEnd if early at
    ∷ ProgrammePassesEnd if cut s (flags_at s at)
    ∷ ProgrammePassesEnd if cut s (playback_length_at s at)
    ∷ ProgrammePassesEnd if cut s (playback_delay_at s at)
    ∷ ProgrammePassesEnd if cut s (expiration_at s at)
    ∷ ProgrammePassesEnd if cut s (content_size_at s at)
    ∷ ProgrammePassesEnd if cut s (content_name_length_at s at)
    ∷ ProgrammePassesEnd if cut s (content_name_at s at)
    ∷ ProgrammePassesEnd if cut s (num_content_descriptors_at s at)
    ∷ ProgrammePassesEnd if cut s (content_descriptors_at s at)
    ∷ ProgrammePassesEnd if passes (item_run s at)
    ∷ []

-- a counted loop from a place to where its run ends
abbrev pub loop_of : ℕ → ℕ → Run → Loop
loop_of n at run = record { count = n; place = at; length = end_of run - at }

-- the item at a place: its fixed fields; those that its flags include, else 0; where its name and its descriptors lie; the place after it
abbrev pub item_of : List ℕ → ℕ → Item
item_of s at =
    record {
      linkage = content_linkage s at;
      flags = flags s at;
      playback = playback_length s at;
      delay = playback_delay s at;
      expires = expiration s at;
      size = content_size s at;
      nameat = content_name_at s at;
      named = content_name_length s at;
      descriptors = loop_of (num_content_descriptors s at) (content_descriptors_at s at) (item_run s at);
      next = end_of (item_run s at);
    }

unfoldable pub item_at : List ℕ → ℕ → Step
item_at s at = first Err (item_faults s at) (Ok (Some (item_of s at)))

-- a step at a place, to item k of the section, from 0: the reading's own number; over where there is no item of that number, at any
-- place; or the item there, or its refusal
abbrev pub step_by : List ℕ → ℕ → ℕ → Reading → Step
step_by s at k (Err r) = Err r
step_by s at k (Ok p) = if leb p.items k then Ok None else item_at s at

unfoldable pub step_of : List ℕ → ℕ → ℕ → Step
step_of s at k = step_by s at k (read_of s)

-- the table's own loop, from the place behind the last item: 43; 44 where bytes are left over after it
abbrev pub own_faults : List ℕ → ℕ → List Row
own_faults s at =
    ProgrammePassesEnd if early at
    ∷ ProgrammePassesEnd if cut s (descriptors_at s at)
    ∷ ProgrammePassesEnd if passes (own_run s at)
    ∷ ProgrammeBytesLeft if ltb (end_of (own_run s at)) (length s)
    ∷ []

unfoldable pub own_at : List ℕ → ℕ → Own
own_at s at = first Err (own_faults s at) (Ok (loop_of (num_descriptors s at) (descriptors_at s at) (own_run s at)))

abbrev pub own_by : List ℕ → ℕ → Reading → Own
own_by s at (Err r) = Err r
own_by s at (Ok p) = own_at s at

unfoldable pub own_of : List ℕ → ℕ → Own
own_of s at = own_by s at (read_of s)
