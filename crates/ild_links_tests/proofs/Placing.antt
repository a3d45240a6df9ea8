-- What a put leaves of a chain's moment.
use Rattle.std.proofs.Common.{◌≡◌, ◌⊎◌, inl, inr, ⊎_elim, ℕ, zero, suc, Bool, true, false, List, Option, Some, None, Ok, Err, refl, sym, ap, ◌∙◌, subst, arith}
use Rattle.std.specs.Cmp.Lexicographic.{same_text as text_same, other_text}
use Rattle.std.proofs.lemmas.Option.{same_Some, none-some}
use Rattle.std.specs.List.{slice_get}
use Rattle.ild_data.specs.Key.{same_text}
use Rattle.ild_data.specs.Spell.{id_of}
use Rattle.ild_data.specs.declared.id.BlockId.{BlockId}
use Rattle.ild_edges.specs.Store.{Moment, StaysBelow, asked_over, Later, Puts, Adds, IsFree, block_at}
use Rattle.ild_edges.specs.Told.{IfTold, BothTold}
use Rattle.ild_edges.specs.declared.error.EdgeErr.TheVariants as D
use Rattle.ild_links.specs.declared.error.TreeErr.TheVariants as E
use Rattle.ild_links_tests.specs.ChainState.{Places, with_lacks}

abbrev IsNew : List ℕ → List (List ℕ) → List (List ℕ) → Type 0
IsNew block was now = (id b : List ℕ) → block_at now id ≡ Some b → (block_at was id ≡ Some b) ⊎ (b ≡ block)

new_by : (block : List ℕ) (was now : List (List ℕ)) (id b : List ℕ) (c : Bool) → c ≡ same_text (id_of block) id → Adds block was now → block_at now id ≡ Some b → (block_at was id ≡ Some b) ⊎ (b ≡ block)
new_by block was now id b true is adds held =
    let at : id_of block ≡ id = text_same (id_of block) id is in
    inr (same_Some b block (sym held ∙ ap (block_at now) (sym at) ∙ adds.held))
new_by block was now id b false is adds held = inl (sym (adds.others id (other_text (id_of block) id is)) ∙ held)

is_new : (block : List ℕ) (was now : List (List ℕ)) → Adds block was now → IsNew block was now
is_new block was now adds id b held = new_by block was now id b (same_text (id_of block) id) refl adds held

both_map : (o p : Option (List (List ℕ))) (P Q : List (List ℕ) → List (List ℕ) → Type 0) → ((a b : List (List ℕ)) → P a b → Q a b) → BothTold o p P → BothTold o p Q
both_map None None P Q f t = tt
both_map None (Some b) P Q f t = absurd t
both_map (Some a) None P Q f t = absurd t
both_map (Some a) (Some b) P Q f t = f a b t

now_held : (o p : Option (List (List ℕ))) (P : List (List ℕ) → List (List ℕ) → Type 0) (Q : List (List ℕ) → Type 0) → ((a b : List (List ℕ)) → P a b → Q b) → BothTold o p P → IfTold p Q
now_held None None P Q f t = tt
now_held None (Some b) P Q f t = absurd t
now_held (Some a) None P Q f t = absurd t
now_held (Some a) (Some b) P Q f t = f a b t

both_same : (o p : Option (List (List ℕ))) (P : List (List ℕ) → List (List ℕ) → Type 0) → p ≡ o → ((a : List (List ℕ)) → P a a) → BothTold o p P
both_same None None P is f = tt
both_same None (Some b) P is f = absurd (none-some b (sym is))
both_same (Some a) None P is f = absurd (none-some a is)
both_same (Some a) (Some b) P is f = subst (λ (x : List (List ℕ)). P a x) (same_Some a b (sym is)) (f a)

-- what is beneath stays
abbrev BelowStays : Moment → Moment → Type 0
BelowStays m n = (i : ℕ) → BothTold (slice_get m.beneath i) (slice_get n.beneath i) (StaysBelow (asked_over m i) (asked_over n i))

-- that looks at no count of lacks
beneath_lacks : (m n : Moment) (k l : ℕ) → BelowStays m n → BelowStays (with_lacks m k) (with_lacks n l)
beneath_lacks m n k l p zero = p zero
beneath_lacks m n k l p (suc i) = p (suc i)

pub beneath_up : (m n : Moment) (k l : ℕ) → BelowStays m (with_lacks n k) → BelowStays m (with_lacks n l)
beneath_up m n k l p zero = p zero
beneath_up m n k l p (suc i) = p (suc i)

later_lacks : (m n : Moment) (l : ℕ) → Later m n → Later (with_lacks m l) (with_lacks n l)
later_lacks m n l later = record { keeps = later.keeps; given = later.given; gets = later.gets; puts = later.puts; lacks = omega arith; faults = later.faults; beneath = beneath_lacks m n l l later.beneath }

pub placed : (m n : Moment) (block : List ℕ) (id : BlockId) (l : ℕ) → id.0 ≡ id_of block → Puts m block (Ok None) n → Places (with_lacks m l) block (Ok id) (with_lacks n l)
placed m n block id l is p = record {
  answer = (is, now_held m.blocks n.blocks (λ was now. IsFree block was × Adds block was now) (λ now. block_at now (id_of block) ≡ Some block) (λ was now a. a.1.held) p.answer.0);
  later = later_lacks m n l p.later;
  adds = both_map m.blocks n.blocks (λ was now. IsFree block was × Adds block was now) (IsNew block) (λ was now a. is_new block was now a.1) p.answer.0;
  gets = p.gets;
  puts = let up = p.puts in omega arith;
}

pub put_failed : (m n : Moment) (block : List ℕ) (l : ℕ) → Puts m block (Err D.Failed) n → Places (with_lacks m l) block (Err E.Store) (with_lacks n l)
put_failed m n block l p = record {
  answer = p.answer.0;
  later = later_lacks m n l p.later;
  adds = ⊎_elim (λ same. both_same m.blocks n.blocks (IsNew block) same (λ a id b held. inl held))
      (λ t. both_map m.blocks n.blocks (λ was now. (block_at was (id_of block) ≡ None) × Adds block was now) (IsNew block) (λ was now a. is_new block was now a.1) t) p.answer.1;
  gets = p.gets;
  puts = let up = p.puts in omega arith;
}

-- the same of bytes that are the block's
pub placed_by : (m n : Moment) (bytes block : List ℕ) (id : BlockId) (l : ℕ) → bytes ≡ block → id.0 ≡ id_of block → Puts m bytes (Ok None) n → Places (with_lacks m l) block (Ok id) (with_lacks n l)
placed_by m n bytes block id l same is p = placed m n block id l is (subst (λ (x : List ℕ). Puts m x (Ok None) n) same p)

pub put_failed_by : (m n : Moment) (bytes block : List ℕ) (l : ℕ) → bytes ≡ block → Puts m bytes (Err D.Failed) n → Places (with_lacks m l) block (Err E.Store) (with_lacks n l)
put_failed_by m n bytes block l same p = put_failed m n block l (subst (λ (x : List ℕ). Puts m x (Err D.Failed) n) same p)
