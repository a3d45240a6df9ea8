-- A value that stays passes on what is carried of it.
use Rattle.std.proofs.Common.{◌⊎◌, inr}
use Rattle.std.specs.Prelude.{Contains}
use Rattle.ild_data.specs.Spell.{id_of}
use Rattle.ild_dirty.proofs.Puts.{told-map}
use Rattle.ild_edges.specs.Store.{StaysGiven}
use Rattle.ild_typed.proofs.Rooms.{all_more}
use Rattle.ild_typed_places.proofs.Listing.{all_one}
use Rattle.ild_script_meaning.specs.Lines.{places_in}
use Rattle.ild_run_standing.specs.Answers.{PassesOn}
use Rattle.ild_run_standing.specs.Laws.{ValuesPassOn}

pub values_pass_on : ValuesPassOn
values_pass_on = λ w m n v later. told-map m.given n.given StaysGiven (λ was now. PassesOn w now v v)
    (λ was now stays. all_more (Contains (places_in w v)) (λ p. Contains now (id_of p.0) ⊎ Contains (places_in w v) p) (λ p here. inr here) (places_in w v) (all_one (places_in w v))) later.given
