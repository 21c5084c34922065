-- Document 01, "Descriptors": a loop is a run of tag 8, length 8, then that many bytes, to the end of the lent part.
use Rattle.std.specs.Prelude.{ℕ, ◌+◌, List, [], Bool, ◌||◌, length, ltb, eqb, if◌then◌else◌, Result, Ok, Err, Option, Some, None}
use Rattle.refusal.specs.declared.Refusal.{Refusal}
use Rattle.refusal.specs.declared.Refusal.TheVariants.{DescriptorRunsPast}
use Rattle.base.specs.Bytes.{byte, part}
use Rattle.descriptors.specs.declared.Descriptor.{Descriptor}

-- what a step finds: a descriptor, none at the loop's end, or a refusal
abbrev pub Step : Type 0
Step = Result (Option Descriptor) Refusal

-- the place is beyond the loop's end
abbrev pub beyond : List ℕ → ℕ → Bool
beyond s at = ltb (length s) at

-- the descriptor at a place runs past the loop: its head does, or its content
abbrev pub runs_past : List ℕ → ℕ → Bool
runs_past s at = ltb (length s) (at + 2) || ltb (length s) (at + 2 + byte s (at + 1))

-- the descriptor at a place: its tag, its content's place and length, and the place after it
abbrev pub descriptor_at : List ℕ → ℕ → Descriptor
descriptor_at s at = record { tag = byte s at; start = at + 2; length = byte s (at + 1); next = at + 2 + byte s (at + 1) }

-- a step at a place: over at the loop's end; 19; or the descriptor there
unfoldable pub step_of : List ℕ → ℕ → Step
step_of s at =
    if eqb at (length s) then Ok None
    else (if beyond s at || runs_past s at then Err DescriptorRunsPast
    else Ok (Some (descriptor_at s at)))

-- the bytes of an answer's content: none where there is no descriptor
abbrev pub content_of : List ℕ → Step → List ℕ
content_of s (Ok (Some d)) = part s d.start d.length
content_of s (Ok None) = []
content_of s (Err r) = []

-- the view at a place
unfoldable pub view_of : List ℕ → ℕ → List ℕ
view_of s at = content_of s (step_of s at)
