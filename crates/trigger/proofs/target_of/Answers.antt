-- `trigger::target_of` meets its contract: each arm fixes the type. Assumes nothing.
use native.Mathlib.Omega.{arith}
use borrow.Author.Rules.{rules}
use borrow.Author.Tests.{ne_eqb}
use mathlib.Core.Path.{◌≡◌, sym, ◌∙◌}
use Prim.Native.Nat.{ℕ, ◌+◌}
use Rattle.base.specs.Bytes.{byte, word}
use Rattle.trigger_faults.specs.Kinds.{kind_in}
use Rattle.trigger_faults.specs.declared.Kind.{Kind}
use Rattle.trigger_faults.proofs.Types.{kind-type, kind-not}
use Rattle.trigger.specs.Trigger.{target_of}
use Rattle.trigger_faults.proofs.Exits.{Aimed, target_sound}
use Rattle.trigger.proofs.Lengths.{module-six, tap-two}
use Rattle.trigger.proofs.target_of.Goals as goal

pub bounds-payload-at : goal.bounds-payload-at
bounds-payload-at c = let sound : Aimed c.args.payload.now c.args.at = target_sound _ _ c.requires in
    let h = sound in omega arith

pub overflow_add-at : goal.overflow_add-at
overflow_add-at c = let sound : Aimed c.args.payload.now c.args.at = target_sound _ _ c.requires in
    let h = sound in omega arith

pub word_at-requires : goal.word_at-requires
word_at-requires c = let sound : Aimed c.args.payload.now c.args.at = target_sound _ _ c.requires in
    let h = sound in omega arith

pub overflow_add-place : goal.overflow_add-place
overflow_add-place c = let sound : Aimed c.args.payload.now c.args.at = target_sound _ _ c.requires in
    let h = sound in omega arith

pub returns-then-length-eq0 : goal.returns-then-length-eq0
unfolding target_of
returns-then-length-eq0 c = let given : c.from-length.result ≡ word c.args.payload.now (c.args.at + 1) = search rules in
    rw (← given, c.if-length-eq0.true)

pub module_at-requires : goal.module_at-requires
module_at-requires c = let type : byte c.args.payload.now c.args.at ≡ 1 = kind-type _ Kind.Module (sym c.from.ensures ∙ c.in-Module.is) (λ e. cc) in
    let sound : Aimed c.args.payload.now c.args.at = target_sound _ _ c.requires in
    let given : c.from-length.result ≡ word c.args.payload.now (c.args.at + 1) = search rules in
    let h = sound in let e = given in let n : word c.args.payload.now (c.args.at + 1) ≡ 6 = module-six _ _ (λ z. c.if-length-eq0.false (e ∙ z)) h.allowed type in omega arith

pub word_at-requires-in-Tap : goal.word_at-requires-in-Tap
word_at-requires-in-Tap c = let type : byte c.args.payload.now c.args.at ≡ 2 = kind-type _ Kind.Tap (sym c.from.ensures ∙ c.in-Tap.is) (λ e. cc) in
    let sound : Aimed c.args.payload.now c.args.at = target_sound _ _ c.requires in
    let given : c.from-length.result ≡ word c.args.payload.now (c.args.at + 1) = search rules in
    let h = sound in let e = given in let n : word c.args.payload.now (c.args.at + 1) ≡ 2 = tap-two _ _ (λ z. c.if-length-eq0.false (e ∙ z)) h.allowed type in omega arith

pub returns-in-Module : goal.returns-in-Module
unfolding target_of
returns-in-Module c = let type : byte c.args.payload.now c.args.at ≡ 1 = kind-type _ Kind.Module (sym c.from.ensures ∙ c.in-Module.is) (λ e. cc) in
    let given : c.from-length.result ≡ word c.args.payload.now (c.args.at + 1) = search rules in
    rw (← given, ne_eqb _ _ c.if-length-eq0.false, type, c.module_at.ensures)

pub returns-in-Tap : goal.returns-in-Tap
unfolding target_of
returns-in-Tap c = let type : byte c.args.payload.now c.args.at ≡ 2 = kind-type _ Kind.Tap (sym c.from.ensures ∙ c.in-Tap.is) (λ e. cc) in
    let given : c.from-length.result ≡ word c.args.payload.now (c.args.at + 1) = search rules in
    rw (← given, ne_eqb _ _ c.if-length-eq0.false, type, c.word_at-in-Tap.ensures)

pub returns-in-AbsoluteUri : goal.returns-in-AbsoluteUri
unfolding target_of
returns-in-AbsoluteUri c = let type : byte c.args.payload.now c.args.at ≡ 3 = kind-type _ Kind.AbsoluteUri (sym c.from.ensures ∙ c.in-AbsoluteUri.is) (λ e. cc) in
    let given : c.from-length.result ≡ word c.args.payload.now (c.args.at + 1) = search rules in
    rw (← given, ne_eqb _ _ c.if-length-eq0.false, type)

pub returns-in-LidUri : goal.returns-in-LidUri
unfolding target_of
returns-in-LidUri c = let type : byte c.args.payload.now c.args.at ≡ 4 = kind-type _ Kind.LidUri (sym c.from.ensures ∙ c.in-LidUri.is) (λ e. cc) in
    let given : c.from-length.result ≡ word c.args.payload.now (c.args.at + 1) = search rules in
    rw (← given, ne_eqb _ _ c.if-length-eq0.false, type)

pub returns-in-HttpUri : goal.returns-in-HttpUri
unfolding target_of
returns-in-HttpUri c = let type : byte c.args.payload.now c.args.at ≡ 5 = kind-type _ Kind.HttpUri (sym c.from.ensures ∙ c.in-HttpUri.is) (λ e. cc) in
    let given : c.from-length.result ≡ word c.args.payload.now (c.args.at + 1) = search rules in
    rw (← given, ne_eqb _ _ c.if-length-eq0.false, type)

pub returns-in_default : goal.returns-in_default
unfolding target_of kind_in
returns-in_default c = let given : c.from-length.result ≡ word c.args.payload.now (c.args.at + 1) = search rules in
    let kind : ℕ = byte c.args.payload.now c.args.at in
    rw (
      ← given,
      ne_eqb _ _ c.if-length-eq0.false,
      ne_eqb kind 1 (kind-not kind 1 (λ e. c.in_default.not-Module (c.from.ensures ∙ e))),
      ne_eqb kind 2 (kind-not kind 2 (λ e. c.in_default.not-Tap (c.from.ensures ∙ e))),
      ne_eqb kind 3 (kind-not kind 3 (λ e. c.in_default.not-AbsoluteUri (c.from.ensures ∙ e))),
      ne_eqb kind 4 (kind-not kind 4 (λ e. c.in_default.not-LidUri (c.from.ensures ∙ e))),
      ne_eqb kind 5 (kind-not kind 5 (λ e. c.in_default.not-HttpUri (c.from.ensures ∙ e))),
    )
