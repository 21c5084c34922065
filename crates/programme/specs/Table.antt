-- Source document 004, Table 6.5, from the top, and the text after it: the fields of an NRT-IT section `s`, each with its width.
-- The eight bytes of the header, table_id 8 to last_section_number 8, are those of every section (document 01, "A section").
use Rattle.std.specs.Prelude.{ℕ, ◌+◌, ◌/◌, ◌^◌, Bool, List}
use Rattle.base.specs.Bits.{bit}
use Rattle.base.specs.Bytes.{byte}
use Rattle.section.specs.Section.{header_size}
use Rattle.programme.specs.Field.{number, only, low}
-- table_id 8 of an NRT-IT is defined with the key, and service_id 16 and time_span_start 32, the first two fields of the body, with the section: its key has them
pub use Rattle.key.specs.Key.{nrt_it}
pub use Rattle.section.specs.Section.{service_id, time_span_start}

-- where each field ends, and the first content item begins
abbrev pub service_id_end : ℕ
service_id_end = header_size + 2

abbrev pub time_span_start_end : ℕ
time_span_start_end = service_id_end + 4

abbrev pub time_span_length_end : ℕ
time_span_length_end = time_span_start_end + 2

abbrev pub first_item_at : ℕ
first_item_at = time_span_length_end + 1

-- reserved 5; time_span_length 11
abbrev pub time_span_length : List ℕ → ℕ
time_span_length s = low s time_span_start_end 2 11

-- num_content_items_in_section 8
abbrev pub num_content_items : List ℕ → ℕ
num_content_items s = byte s time_span_length_end

-- for each content item, from its place:
module _ (s : List ℕ) (at : ℕ) where
  -- content_linkage 32
  abbrev pub content_linkage : ℕ
  content_linkage = number s at 4

  abbrev pub flags_at : ℕ
  flags_at = at + 4

  -- ten flags of one bit, the first highest; then reserved 6
  abbrev pub flags : ℕ
  flags = number s flags_at 2 / 2 ^ 6

  abbrev pub updates_available : Bool
  updates_available = bit flags 9

  abbrev pub tf_available : Bool
  tf_available = bit flags 8

  abbrev pub content_security_conditions_indicator : Bool
  content_security_conditions_indicator = bit flags 7

  abbrev pub master_item : Bool
  master_item = bit flags 6

  abbrev pub playback_length_included : Bool
  playback_length_included = bit flags 5

  abbrev pub playback_delay_included : Bool
  playback_delay_included = bit flags 4

  abbrev pub expiration_included : Bool
  expiration_included = bit flags 3

  abbrev pub content_size_included : Bool
  content_size_included = bit flags 2

  abbrev pub available_on_internet : Bool
  available_on_internet = bit flags 1

  abbrev pub available_in_broadcast : Bool
  available_in_broadcast = bit flags 0

  -- where playback_length_included is 1: reserved 4; playback_length_in_seconds 20
  abbrev pub playback_length_at : ℕ
  playback_length_at = at + 6

  abbrev pub playback_length : ℕ
  playback_length = only playback_length_included (low s playback_length_at 3 20)

  -- where playback_delay_included is 1: reserved 4; playback_delay 20
  abbrev pub playback_delay_at : ℕ
  playback_delay_at = playback_length_at + only playback_length_included 3

  abbrev pub playback_delay : ℕ
  playback_delay = only playback_delay_included (low s playback_delay_at 3 20)

  -- where expiration_included is 1: expiration 32
  abbrev pub expiration_at : ℕ
  expiration_at = playback_delay_at + only playback_delay_included 3

  abbrev pub expiration : ℕ
  expiration = only expiration_included (low s expiration_at 4 32)

  -- where content_size_included is 1: content_size 40
  abbrev pub content_size_at : ℕ
  content_size_at = expiration_at + only expiration_included 4

  abbrev pub content_size : ℕ
  content_size = only content_size_included (low s content_size_at 5 40)

  -- content_name_length 8
  abbrev pub content_name_length_at : ℕ
  content_name_length_at = content_size_at + only content_size_included 5

  abbrev pub content_name_length : ℕ
  content_name_length = byte s content_name_length_at

  -- content_name_text(), of so many bytes
  abbrev pub content_name_at : ℕ
  content_name_at = content_name_length_at + 1

  -- num_content_descriptors 8
  abbrev pub num_content_descriptors_at : ℕ
  num_content_descriptors_at = content_name_at + content_name_length

  abbrev pub num_content_descriptors : ℕ
  num_content_descriptors = byte s num_content_descriptors_at

  -- so many content_descriptor()
  abbrev pub content_descriptors_at : ℕ
  content_descriptors_at = num_content_descriptors_at + 1

  -- after the items, from the place where the last one ends: num_descriptors 8
  abbrev pub num_descriptors : ℕ
  num_descriptors = byte s at

  -- so many descriptor()
  abbrev pub descriptors_at : ℕ
  descriptors_at = at + 1
