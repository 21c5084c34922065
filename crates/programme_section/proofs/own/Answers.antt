-- `programme_section::own` meets its promise by what was found.
use borrow.Author.Rules.{rules}
use mathlib.Core.Path.{◌≡◌, sym, ap, ◌∙◌}
use Rattle.std.specs.Prelude.{Err}
use Rattle.refusal.specs.declared.Refusal.TheVariants.{ProgrammeBytesLeft}
use Rattle.programme_section.proofs.Facts.{left_over}
use Rattle.programme_section.proofs.own.Goals as goal

pub own_end-left-requires : goal.own_end-left-requires
own_end-left-requires c =
    let left : c.in-Err.refusal ≡ ProgrammeBytesLeft = search rules in
    left_over _ _ (sym c.in-Err.ensures ∙ ap Err left)
