-- Source document 004, Table 6.5: the bytes of a section's body from what it says, in the table's order. Reserved bits are fields here, so
-- that every body that is read is some list's; no answer shows them.
use Rattle.std.specs.Prelude.{ℕ, zero, suc, ◌+◌, ◌*◌, ◌/◌, ◌%◌, ◌^◌, ◌<◌, List, [], ◌∷◌, ◌++◌, length, Ok, Some, None}
use Rattle.base.specs.Octets.{Octets}
use Rattle.programme.specs.Table.{first_item_at}
use Rattle.programme.specs.declared.Programme.{Programme}
use Rattle.programme.specs.declared.Loop.{Loop}
use Rattle.programme.specs.declared.Item.{Item}
use Rattle.programme.specs.Reading.{Step}
use Rattle.programme_laws.specs.Walk.{Answers}

-- a number in n bytes, high byte first; and how many numbers n bytes have
unfoldable pub digits : ℕ → ℕ → List ℕ
digits zero v = []
digits (suc n) v = digits n (v / 256) ++ (v % 256 ∷ [])

abbrev pub span : ℕ → ℕ
span zero = 1
span (suc n) = span n * 256

-- a descriptor: tag 8, length 8, and so many bytes
pub record Descriptor : Type 0 where
  pub tag : ℕ
  pub content : List ℕ

-- descriptors, one behind the other
unfoldable pub loop_bytes : List Descriptor → List ℕ
loop_bytes [] = []
loop_bytes (d ∷ ds) = d.tag ∷ length d.content ∷ (d.content ++ loop_bytes ds)

-- a field that its flag includes or not: the reserved bits before it, and its value
pub data Optional : Type 0 where
  absent : Optional
  there : ℕ → ℕ → Optional

-- the flag
abbrev pub included : Optional → ℕ
included Optional.absent = 0
included (Optional.there reserved value) = 1

-- in n bytes, of which the last bits are the value's
unfoldable pub optional_bytes : ℕ → ℕ → Optional → List ℕ
optional_bytes n bits Optional.absent = []
optional_bytes n bits (Optional.there reserved value) = digits n (reserved * 2 ^ bits + value)

-- a content item
pub record Content : Type 0 where
  pub linkage : ℕ
  pub updates : ℕ
  pub fragment : ℕ
  pub security : ℕ
  pub master : ℕ
  pub playback : Optional
  pub delay : Optional
  pub expires : Optional
  pub size : Optional
  pub internet : ℕ
  pub broadcast : ℕ
  pub reserved : ℕ
  pub name : List ℕ
  pub descriptors : List Descriptor

-- its ten flags, the first highest
abbrev pub flags_of : Content → ℕ
flags_of c =
    c.updates * 2 ^ 9
    + c.fragment * 2 ^ 8
    + c.security * 2 ^ 7
    + c.master * 2 ^ 6
    + included c.playback * 2 ^ 5
    + included c.delay * 2 ^ 4
    + included c.expires * 2 ^ 3
    + included c.size * 2 ^ 2
    + c.internet * 2
    + c.broadcast

-- its bytes before content_name_length, and from there on, each with what is behind
abbrev pub front_bytes : Content → List ℕ → List ℕ
front_bytes c rest =
    digits 4 c.linkage
    ++ (digits 2 (flags_of c * 2 ^ 6 + c.reserved)
    ++ (optional_bytes 3 20 c.playback
    ++ (optional_bytes 3 20 c.delay
    ++ (optional_bytes 4 32 c.expires
    ++ (optional_bytes 5 40 c.size ++ rest)))))

abbrev pub name_bytes : Content → List ℕ → List ℕ
name_bytes c rest = length c.name ∷ (c.name ++ (length c.descriptors ∷ (loop_bytes c.descriptors ++ rest)))

-- the item, and what is behind it
unfoldable pub content_then : Content → List ℕ → List ℕ
content_then c rest = front_bytes c (name_bytes c rest)

abbrev pub content_bytes : Content → List ℕ
content_bytes c = content_then c []

-- items, one behind the other, and what is behind them
unfoldable pub contents_then : List Content → List ℕ → List ℕ
contents_then [] rest = rest
contents_then (c ∷ cs) rest = content_then c (contents_then cs rest)

-- what a section says
pub record Body : Type 0 where
  pub service : ℕ
  pub start : ℕ
  pub reserved : ℕ
  pub minutes : ℕ
  pub items : List Content
  pub descriptors : List Descriptor

-- the bytes of a section's body
unfoldable pub body_of : Body → List ℕ
body_of b =
    digits 2 b.service
    ++ (digits 4 b.start
    ++ (digits 2 (b.reserved * 2 ^ 11 + b.minutes)
    ++ (length b.items ∷ contents_then b.items (length b.descriptors ∷ loop_bytes b.descriptors))))

-- Widths: a field fits its bits, a count and a length fit 8 bits, and bytes are bytes.
pub record FitDescriptor (d : Descriptor) : Type 0 where
  pub tag : d.tag < 256
  pub long : length d.content < 256
  pub bytes : Octets d.content

abbrev pub FitLoop : List Descriptor → Type 0
FitLoop [] = Unit {0}
FitLoop (d ∷ ds) = FitDescriptor d × FitLoop ds

abbrev pub FitOptional : ℕ → ℕ → Optional → Type 0
FitOptional n bits Optional.absent = Unit {0}
FitOptional n bits (Optional.there reserved value) = (value < 2 ^ bits) × (reserved * 2 ^ bits + value < span n)

pub record FitContent (c : Content) : Type 0 where
  pub linkage : c.linkage < 2 ^ 32
  pub updates : c.updates < 2
  pub fragment : c.fragment < 2
  pub security : c.security < 2
  pub master : c.master < 2
  pub playback : FitOptional 3 20 c.playback
  pub delay : FitOptional 3 20 c.delay
  pub expires : FitOptional 4 32 c.expires
  pub size : FitOptional 5 40 c.size
  pub internet : c.internet < 2
  pub broadcast : c.broadcast < 2
  pub reserved : c.reserved < 2 ^ 6
  pub named : length c.name < 256
  pub name : Octets c.name
  pub counted : length c.descriptors < 256
  pub descriptors : FitLoop c.descriptors

abbrev pub FitContents : List Content → Type 0
FitContents [] = Unit {0}
FitContents (c ∷ cs) = FitContent c × FitContents cs

pub record FitBody (b : Body) : Type 0 where
  pub service : b.service < 2 ^ 16
  pub start : b.start < 2 ^ 32
  pub reserved : b.reserved < 2 ^ 5
  pub minutes : b.minutes < 2 ^ 11
  pub listed : length b.items < 256
  pub items : FitContents b.items
  pub counted : length b.descriptors < 256
  pub descriptors : FitLoop b.descriptors

-- What a body is to be answered as:
abbrev pub value_of : Optional → ℕ
value_of Optional.absent = 0
value_of (Optional.there reserved value) = value

-- the place of an item's name, behind its length
abbrev pub name_in : ℕ → Content → ℕ
name_in at c = at + length (front_bytes c []) + 1

abbrev pub loop_in : ℕ → List Descriptor → Loop
loop_in at ds = record { count = length ds; place = at + 1; length = length (loop_bytes ds) }

abbrev pub item_in : ℕ → Content → Item
item_in at c =
    record {
      linkage = c.linkage;
      flags = flags_of c;
      playback = value_of c.playback;
      delay = value_of c.delay;
      expires = value_of c.expires;
      size = value_of c.size;
      nameat = name_in at c;
      named = length c.name;
      descriptors = loop_in (name_in at c + length c.name) c.descriptors;
      next = at + length (content_bytes c);
    }

abbrev pub steps_in : ℕ → List Content → List Step
steps_in at [] = Ok None ∷ []
steps_in at (c ∷ cs) = Ok (Some (item_in at c)) ∷ steps_in (at + length (content_bytes c)) cs

-- the place behind items
abbrev pub past_all : ℕ → List Content → ℕ
past_all at [] = at
past_all at (c ∷ cs) = past_all (at + length (content_bytes c)) cs

abbrev pub programme_in : Body → Programme
programme_in b = record { service = b.service; start = b.start; minutes = b.minutes; items = length b.items }

abbrev pub answers_of : Body → Answers
answers_of b =
    record {
      reading = Ok (programme_in b);
      steps = steps_in first_item_at b.items;
      own = Ok (loop_in (past_all first_item_at b.items) b.descriptors);
    }
