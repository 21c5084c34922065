-- The text for staff: its lines. Each ends with a newline, and numbers are decimal without leading zeros.
use Rattle.std.specs.Prelude.{ℕ, ◌/◌, ◌%◌, ◌^◌, List, [], ◌++◌, if◌then◌else◌}
use Rattle.base.specs.Bits.{bit}
use Rattle.file_listing.specs.Words.{ascii, newline}
use Rattle.text.specs.Words.{field, escaped}
use Rattle.programme.specs.declared.Programme.{Programme}
use Rattle.programme.specs.declared.Loop.{Loop}
use Rattle.programme.specs.declared.Item.{Item}

-- no programme list
abbrev pub other_line : List ℕ
other_line = ascii "no programme list" ++ newline

-- section 1 refused 43 place 8
unfoldable pub refused_at : ℕ → ℕ → ℕ → List ℕ
refused_at section number place = field "section " section ++ (field " refused " number ++ (field " place " place ++ newline))

-- section 0 service 3152 start 1000000800 minutes 1440 items 2
unfoldable pub programme_line : ℕ → Programme → List ℕ
programme_line section p =
    field "section " section
    ++ (field " service " p.service
    ++ (field " start " p.start ++ (field " minutes " p.minutes ++ (field " items " p.items ++ newline))))

-- item 0 linkage 66
unfoldable pub item_line : ℕ → ℕ → List ℕ
item_line k linkage = field "item " k ++ (field " linkage " linkage ++ newline)

-- updates 1 fragment 0 protected 0 master 1 internet 0 broadcast 1
unfoldable pub flags_line : ℕ → List ℕ
flags_line flags =
    field "updates " (flags / 2 ^ 9 % 2)
    ++ (field " fragment " (flags / 2 ^ 8 % 2)
    ++ (field " protected " (flags / 2 ^ 7 % 2)
    ++ (field " master " (flags / 2 ^ 6 % 2)
    ++ (field " internet " (flags / 2 ^ 1 % 2) ++ (field " broadcast " (flags / 2 ^ 0 % 2) ++ newline)))))

-- playback 5400
unfoldable pub playback_line : Item → List ℕ
playback_line i = if bit i.flags 5 then field "playback " i.playback ++ newline else []

-- delay 30
unfoldable pub delay_line : Item → List ℕ
delay_line i = if bit i.flags 4 then field "delay " i.delay ++ newline else []

-- expires 1300000000
unfoldable pub expires_line : Item → List ℕ
expires_line i = if bit i.flags 3 then field "expires " i.expires ++ newline else []

-- size 73400320
unfoldable pub size_line : Item → List ℕ
size_line i = if bit i.flags 2 then field "size " i.size ++ newline else []

-- name A\x5Cname
unfoldable pub name_line : List ℕ → List ℕ
name_line name = ascii "name " ++ (escaped name ++ newline)

-- descriptors 2 bytes 14
unfoldable pub descriptors_line : Loop → List ℕ
descriptors_line l = field "descriptors " l.count ++ (field " bytes " l.length ++ newline)

-- list descriptors 1 bytes 6
unfoldable pub list_line : Loop → List ℕ
list_line l = field "list descriptors " l.count ++ (field " bytes " l.length ++ newline)

-- the lines of the fields that the flags include
abbrev pub included_lines : Item → List ℕ
included_lines i = playback_line i ++ (delay_line i ++ (expires_line i ++ size_line i))

-- the lines of item k of a section, whose name has these bytes
unfoldable pub item_text : List ℕ → ℕ → Item → List ℕ
item_text name k i =
    item_line k i.linkage
    ++ (flags_line i.flags ++ (included_lines i ++ (name_line name ++ descriptors_line i.descriptors)))

-- the last line: whole, or not whole
abbrev pub whole_line : List ℕ
whole_line = ascii "whole" ++ newline

abbrev pub not_whole_line : List ℕ
not_whole_line = ascii "not whole" ++ newline
