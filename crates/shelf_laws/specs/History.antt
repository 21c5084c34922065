-- Histories of calls on a shelf begun fresh, each call handed the record and the store that the last one left, and their logs:
-- each call with its answer.
use Rattle.std.specs.Prelude.{ℕ, List, [], ◌∷◌, Bool, Result, Option}
use Rattle.refusal.specs.Refusal.{number_of}
use Rattle.refusal.specs.declared.Refusal.{Refusal}
use Rattle.base.specs.Bytes.{zeros}
use Rattle.base.specs.Octets.{Octets}
use Rattle.berth.specs.Berth.{store_size}
use Rattle.shelf.specs.Record.{fresh}
use Rattle.key.specs.declared.Key.{Key}
use Rattle.shelf_offer.specs.declared.Offered.{Offered}
use Rattle.shelf_ask.specs.Ask as Ask
use Rattle.shelf_save.specs.Save as Save
use Rattle.shelf_laws.specs.State.{State, offer_to, load_on, release_from, copy_out, whole_in, missing_in, save_out, after_offer, after_load, after_release}

pub data Question : Type 0 where
  copy : Key → ℕ → List ℕ → Question
  whole : Key → Question
  missing : Key → Question
  save : Key → List ℕ → Question

-- the key of the table that is asked for
abbrev pub about : Question → Key
about (copy key n out) = key
about (whole key) = key
about (missing key) = key
about (save key out) = key

pub data Call : Type 0 where
  offer : List ℕ → Call
  load : List ℕ → Call
  release : Key → Call
  ask : Question → Call

pub data Reply : Type 0 where
  copied : Ask.Copy → Reply
  wholly : Result Bool Refusal → Reply
  lacking : Result (Option ℕ) Refusal → Reply
  saved : Save.Save → Reply

-- a call with its answer
pub data Entry : Type 0 where
  offered : List ℕ → Result Offered Refusal → Entry
  loaded : List ℕ → Result (Unit {0}) Refusal → Entry
  released : Key → Result (Unit {0}) Refusal → Entry
  asked : Question → Reply → Entry

abbrev pub reply : State → Question → Reply
reply s (copy key n out) = copied (copy_out s key n out)
reply s (whole key) = wholly (whole_in s key)
reply s (missing key) = lacking (missing_in s key)
reply s (save key out) = saved (save_out s key out)

abbrev pub entry : State → Call → Entry
entry s (offer payload) = offered payload (offer_to s payload).said
entry s (load file) = loaded file (load_on s file).said
entry s (release key) = released key (release_from s key).said
entry s (ask question) = asked question (reply s question)

-- what a call leaves; asking and saving leave all as it was
abbrev pub step : State → Call → State
step s (offer payload) = after_offer (offer_to s payload)
step s (load file) = after_load (load_on s file)
step s (release key) = after_release (release_from s key)
step s (ask question) = s

-- the state after the calls of a history, in order
abbrev pub after : State → List Call → State
after s [] = s
after s (c ∷ cs) = after (step s c) cs

-- their log, the latest entry first, before an older log
abbrev pub logged : State → List Entry → List Call → List Entry
logged s log [] = log
logged s log (c ∷ cs) = logged (step s c) (entry s c ∷ log) cs

-- a fresh shelf has four free places and a zeroed store
abbrev pub start : State
start = record { shelf = fresh; store = zeros store_size }

abbrev pub after_all : List Call → State
after_all h = after start h

abbrev pub log_of : List Call → List Entry
log_of h = logged start [] h

-- what is answered after a history
abbrev pub reply_after : List Call → Question → Reply
reply_after h = reply (after_all h)

abbrev pub copy_after : List Call → Key → ℕ → List ℕ → Ask.Copy
copy_after h = copy_out (after_all h)

abbrev pub whole_after : List Call → Key → Result Bool Refusal
whole_after h = whole_in (after_all h)

-- the paper's number of an entry's answer; 0 for none
abbrev pub reply_no : Reply → ℕ
reply_no (copied said) = number_of said.said
reply_no (wholly said) = number_of said
reply_no (lacking said) = number_of said
reply_no (saved said) = number_of said.said

abbrev pub number_in : Entry → ℕ
number_in (offered payload said) = number_of said
number_in (loaded file said) = number_of said
number_in (released key said) = number_of said
number_in (asked question said) = reply_no said

-- payloads and files are of bytes
abbrev pub OfBytes : List Call → Type 0
OfBytes [] = Unit {0}
OfBytes (offer payload ∷ cs) = Octets payload × OfBytes cs
OfBytes (load file ∷ cs) = Octets file × OfBytes cs
OfBytes (release key ∷ cs) = OfBytes cs
OfBytes (ask question ∷ cs) = OfBytes cs

-- so of every entry of a log
abbrev pub Each : (Entry → Type 0) → List Entry → Type 0
Each p [] = Unit {0}
Each p (e ∷ log) = p e × Each p log
