use Rattle.std.proofs.Common.{subst}
use Rattle.std.proofs.Math.Logic.{∥∥₁_map}
use Rattle.ild_path_place.specs.Links.{EndBehind}
use Rattle.ild_path.proofs.Placing.{at_block, at_key, at_whole, whole_end}
use Rattle.ild_path.proofs.parts.edit_parts.Goals as goal

pub returns-in-Whole-clause-edits : goal.returns-in-Whole-clause-edits
returns-in-Whole-clause-edits g c = λ is_key was v w x u path told pieces change.
    at_whole g.H.KeyHash.hash_of is_key was c.args.parts.root c.args.parts.hops.items c.args.parts.end v w x u path c.args.edit.now (g.K.Store.moment c.args.store.now) (g.K.Store.moment c.edit_in_block-in-Whole.new.store) c.edit_in_block-in-Whole.result told pieces change
    _ c.edit_in_block-in-Whole.ensures.edits c.in-Whole.is c.new.ensures (whole_end c.args.edit.now c.args.parts.end _ c.in-Whole.is c.requires.ends)

pub returns-in-InBlock-clause-edits : goal.returns-in-InBlock-clause-edits
returns-in-InBlock-clause-edits g c = λ is_key was v w x u path told pieces change.
    at_block g.H.KeyHash.hash_of is_key was c.args.parts.root c.args.parts.hops.items c.args.parts.end v w x u path c.args.edit.now (g.K.Store.moment c.args.store.now) (g.K.Store.moment c.edit_in_block-in-InBlock.new.store) c.edit_in_block-in-InBlock.result told pieces change
    _ c.edit_in_block-in-InBlock.ensures.edits c.in-InBlock.is

pub returns-clause-edits : goal.returns-clause-edits
returns-clause-edits g c = λ is_key was v w x u path told pieces change.
    at_key g.H.KeyHash.hash_of is_key was c.args.parts.root c.args.parts.hops.items c.args.parts.end v w x u path c.args.edit.now (g.K.Store.moment c.args.store.now) (g.K.Store.moment c.edit_at_key.new.store) c.edit_at_key.result told pieces change
    _ c.in-AtKey.trail c.in-AtKey.field-2 c.edit_at_key.ensures.edits c.in-AtKey.is

pub edit_in_block-requires : goal.edit_in_block-requires
edit_in_block-requires g c = ∥∥₁_map c.requires.linked (λ x. x.hops_are)

pub edit_in_block-requires-in-InBlock : goal.edit_in_block-requires-in-InBlock
edit_in_block-requires-in-InBlock g c = ∥∥₁_map c.requires.linked (λ x. x.hops_are)

pub edit_at_key-requires-clause-linked : goal.edit_at_key-requires-clause-linked
edit_at_key-requires-clause-linked g c = ∥∥₁_map c.requires.linked (λ x. x.hops_are)

pub edit_at_key-requires-clause-leads : goal.edit_at_key-requires-clause-leads
edit_at_key-requires-clause-leads g c = ∥∥₁_map c.requires.linked (λ x. subst (EndBehind c.args.parts.root c.args.parts.hops.items) c.in-AtKey.is x.leads)
