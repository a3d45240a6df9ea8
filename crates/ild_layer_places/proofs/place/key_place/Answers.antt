use Rattle.std.proofs.Common.{arith, ◌+◌, length, [], ◌∷◌}
use Rattle.ild_data.specs.Spell.{spell_text}
use Rattle.ild_typed.specs.Spots.{key, under}
use Rattle.ild_layer_places.proofs.Placing.{key_before, one_step, step_one, text_length}
use Rattle.ild_layer_places.proofs.place.key_place.Goals as goal

pub returns : goal.returns
returns c = λ w p d stands e.
    let k = c.args.key.now in
    let v = key_before w k p d (one_step (key k) w p d e) in
    let there = c.behind.ensures w (under k ∷ []) (p + length (spell_text k)) v.0 (c.value_of.ensures w stands) (step_one (under k) w (p + length (spell_text k)) v.0 v.1) in
    let long = text_length k in
    omega (arith, there, long)
