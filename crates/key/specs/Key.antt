-- Document 01, "The shelf": "A table's key is its table id with its table id extension." Document 02, request 4: that of an NRT-IT takes in every
-- field that Table 6.5 of source document 004 and its text name as identifying. The text on NRT_IT_version_number names service_id,
-- table_id_extension and time_span_start, that on section_number table_id as well. Other ids keep the old key.
use Rattle.std.specs.Prelude.{ℕ, Bool, ◌&&◌, eqb, if◌then◌else◌}
use Rattle.key.specs.declared.Key.{Key}

-- the table id of an NRT-IT
abbrev pub nrt_it : ℕ
nrt_it = 0xDF

-- the key that these four say: of an NRT-IT all, of any other table the first two
unfoldable pub key_from : ℕ → ℕ → ℕ → ℕ → Key
key_from table extension service start =
    if eqb table nrt_it
    then (record { table = table; extension = extension; service = service; start = start })
    else (record { table = table; extension = extension; service = 0; start = 0 })

-- two keys are one. All that are compared are keys that `key_from` says, so that of a table other than an NRT-IT the last two are 0
abbrev pub same_key : Key → Key → Bool
same_key a b =
    eqb a.table b.table && (eqb a.extension b.extension && (eqb a.service b.service && eqb a.start b.start))
