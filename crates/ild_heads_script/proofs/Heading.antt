-- A head that is made asks nothing of the work.
use Rattle.std.specs.Prelude.{◌≡◌, ◌⊎◌, ℕ, List, Bool, refl}
use Rattle.std.proofs.Common.{inl, inr}
use Rattle.ild_data.specs.declared.id.BlockId.{BlockId}
use Rattle.ild_heads.specs.declared.events.Event.TheVariants as E
use Rattle.ild_heads.specs.State.{State}
use Rattle.ild_heads_script.specs.Answer.{TakesEvent}

pub head_takes : {W V : Type 0} (told : Bool) (Stands : List ℕ → V → Type 0) (Plain : V → List ℕ → List ℕ → V → Type 0) (Ran : W → List ℕ → List ℕ → List ℕ → List ℕ → W → Type 0) (u x : W) (s : State) (name : List ℕ) (root : BlockId) (text : List ℕ) (t : State)
    → TakesEvent told Stands Plain Ran u x s (E.Head name root) text t → TakesEvent told Stands Plain Ran x x s (E.Head name root) text t
head_takes told Stands Plain Ran u x s name root text t (inl r) = inl r
head_takes told Stands Plain Ran u x s name root text t (inr o) =
    inr (record { outcome = o.outcome; turn = record { done = o.turn.done; given = o.turn.given; ran = refl; turned = o.turn.turned }; text_is = o.text_is })
