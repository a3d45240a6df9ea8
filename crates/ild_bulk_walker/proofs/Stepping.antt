-- The steps that are gathered from a node.
use Rattle.std.proofs.Common.{◌≡◌, ℕ, List, [], ◌∷◌, ◌++◌, map, Some, refl, sym, ap, ◌∙◌, subst, arith}
use Rattle.std.specs.Prelude.{reverse, Result, Ok, Err}
use Rattle.std.proofs.lemmas.List.{map-append, reverse-append}
use Rattle.ild_data.specs.declared.hamt_shape.HamtShape.{HamtShape}
use Rattle.ild_data.specs.Data.{Data}
use Rattle.std.specs.Global.{Vec}
use Rattle.ild_cbor.specs.declared.why.BlockWhy.TheVariants.{Missing, Cbor, Shape as NoNode}
use Rattle.ild_edges.specs.Gained.{IsUnder, IsGot}
use Rattle.ild_edges.specs.Store.{Moment, Gets}
use Rattle.ild_edges.proofs.Reading.{reads_none}
use Rattle.ild_node_slots.specs.declared.fault.HamtFault.{HamtFault}
use Rattle.ild_node_slots.specs.declared.fault.HamtFault.TheVariants as F
use Rattle.ild_bulk_walker.specs.Fetching.{ReadsBlock, OnlyGets, Fetches}
use Rattle.ild_bulk_walker.specs.Steps.{step_todo, steps_todo, entry_key, entry_value}
use Rattle.ild_bulk_walker.specs.Todo.{give}
use Rattle.ild_bulk_walker.specs.declared.step.Step.{Step}
use Rattle.ild_bulk_walker.specs.declared.step.Step.TheVariants as T
use Rattle.ild_bulk_walker.specs.declared.step.Entry.{Entry}

-- one entry more
pub entry-pushed : (index : ℕ) (old new : List Step) (e : Entry) (x : List ℕ × Data) → new ≡ old ++ T.Give e ∷ [] → entry_key e ≡ x.0 → entry_value e ≡ x.1 → e.index ≡ index → map step_todo new ≡ map step_todo old ++ give x.0 x.1 index ∷ []
entry-pushed index old new e x pushes key value at =
    ap (map step_todo) pushes ∙ map-append step_todo old (T.Give e ∷ []) ∙ (λ k. map step_todo old ++ give (key k) (value k) (at k) ∷ [])

reverse-twice : {X : Type 0} (xs : List X) → reverse (reverse xs) ≡ xs
reverse-twice [] = refl
reverse-twice (x ∷ xs) = ap reverse (reverse-append (x ∷ []) xs) ∙ reverse-append (reverse xs) (x ∷ []) ∙ ap (λ ys. x ∷ ys) (reverse-twice xs)

map-reverse : (steps : List Step) → map step_todo (reverse steps) ≡ reverse (map step_todo steps)
map-reverse [] = refl
map-reverse (s ∷ steps) =
    ap (map step_todo) (reverse-append (s ∷ []) steps) ∙ map-append step_todo (reverse steps) (s ∷ []) ∙ ap (λ ts. ts ++ step_todo s ∷ []) (map-reverse steps) ∙ sym (reverse-append (step_todo s ∷ []) (map step_todo steps))

-- the steps that were gathered, turned round
pub steps-turned : (steps new : List Step) → new ≡ reverse steps → steps_todo new ≡ map step_todo steps
steps-turned steps new turned = ap (λ (xs : List Step). reverse (map step_todo xs)) turned ∙ ap reverse (map-reverse steps) ∙ reverse-twice (map step_todo steps)

-- ---- a block that was got

got-here : (m n : Moment) (id b : List ℕ) → Gets m id (Ok (Some b)) n → IsGot n b
got-here m n id b gets = record { before = m; behind = n; get = subst (λ i. Gets m i (Ok (Some b)) n) (sym gets.answer.0) gets; since = reads_none n }

block-here : (m n : Moment) (id b : List ℕ) → Gets m id (Ok (Some b)) n → IsUnder m.blocks id b
block-here m n id b gets = record { named = gets.answer.0; held = gets.answer.1 }

one-get : (m n : Moment) (id b : List ℕ) → Gets m id (Ok (Some b)) n → OnlyGets 1 m n
one-get m n id b gets = record { later = gets.later; blocks = gets.blocks; given = gets.given; puts = gets.puts; gets = let many = gets.gets in omega arith }

pub fetched : (p : HamtShape) (m n : Moment) (id b : List ℕ) (r : Result (Vec Step) HamtFault) → ReadsBlock p id b r → Gets m id (Ok (Some b)) n → Fetches p m id r n
fetched p m n id b (Ok steps) reads gets = record { answer = record { block = b; at = block-here m n id b gets; got = got-here m n id b gets; has = reads }; only = one-get m n id b gets }
fetched p m n id b (Err (F.Block i Missing)) reads gets = absurd reads.1
fetched p m n id b (Err (F.Block i (Cbor fault))) reads gets = record { answer = (reads.0, record { block = b; at = block-here m n id b gets; got = got-here m n id b gets; wrong = reads.1 }); only = one-get m n id b gets }
fetched p m n id b (Err (F.Block i (NoNode why))) reads gets = record { answer = (reads.0, record { block = b; at = block-here m n id b gets; got = got-here m n id b gets; wrong = reads.1 }); only = one-get m n id b gets }
fetched p m n id b (Err F.Exhausted) reads gets = absurd reads
fetched p m n id b (Err F.Store) reads gets = absurd reads
fetched p m n id b (Err (F.Clash i kept new)) reads gets = absurd reads
fetched p m n id b (Err F.Size) reads gets = absurd reads
fetched p m n id b (Err F.NoKey) reads gets = absurd reads
fetched p m n id b (Err F.Memory) reads gets = record { answer = tt; only = one-get m n id b gets }
