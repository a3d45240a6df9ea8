-- A way planned node by node, of whatever trie they are.
use Rattle.std.proofs.Common.{◌≡◌, ◌⊎◌, inl, inr, ℕ, ◌+◌, ◌≤◌, false, List, [], ◌∷◌, ◌++◌, length, set, Option, Some, refl, sym, ap, ◌∙◌, subst, arith, append_assoc, append-nil}
use Rattle.std.specs.Prelude.{All, IsSome, Result, Ok, Err, IfOk}
use Rattle.std.specs.List.{AllByRecursion}
use Rattle.std.proofs.lemmas.List.{length-append}
use Rattle.std.proofs.lemmas.List.Elements.{All-pop}
use Rattle.ild_data.proofs.AllOf.{all_push}
use Rattle.ild_data.specs.declared.hamt_shape.HamtShape.{HamtShape}
use Rattle.ild_data.specs.Spell.{spell, id_of}
use Rattle.ild_data.specs.Trie.{TrieSlot, empty, bucket, child, is_child, node_data}
use Rattle.ild_edges.specs.Store.{block_at}
use Rattle.ild_node.specs.NewSlots.{slot_seen}
use Rattle.ild_node.specs.Written.{IsNodeBlock}
use Rattle.ild_node.specs.declared.hold.NewHold.{NewHold}
use Rattle.ild_node.proofs.Standing.{all-set}
use Rattle.ild_bulk.specs.Children.{ChildIn, IsIdAmong}
use Rattle.ild_edges.specs.Among.{IsIn}
use Rattle.ild_hamt_climb.specs.Planning.{HoldsLinksOf, SpellsNode, IsWritten, Rising, IsPlanned, LiftsOver, ClimbsOver}
use Rattle.ild_bulk_walker.specs.Gives.{IsNodeOf}

pub rising-append : (held before xs ys : List (List ℕ)) → Rising held before xs → Rising held (before ++ xs) ys → Rising held before (xs ++ ys)
rising-append held before [] ys first second = subst (λ (bs : List (List ℕ)). Rising held bs ys) (append-nil before) second
rising-append held before (x ∷ xs) ys first second =
    (first.0, rising-append held (before ++ x ∷ []) xs ys first.1 (subst (λ (bs : List (List ℕ)). Rising held bs ys) (sym (append_assoc before (x ∷ []) xs)) second))

pub child-more : (P Q : List ℕ → Type 0) (s : TrieSlot) → ((id : List ℕ) → P id → Q id) → ChildIn P s → ChildIn Q s
child-more P Q empty f c = tt
child-more P Q (bucket es) f c = tt
child-more P Q (child id) f c = f id c

children-more : (P Q : List ℕ → Type 0) (slots : List TrieSlot) → ((id : List ℕ) → P id → Q id) → AllByRecursion (ChildIn P) slots → AllByRecursion (ChildIn Q) slots
children-more P Q [] f all = tt
children-more P Q (s ∷ slots) f all = (child-more P Q s f all.0, children-more P Q slots f all.1)

pub among-last : (b : List ℕ) (bs : List (List ℕ)) → IsIn b (bs ++ b ∷ [])
among-last b [] = inl refl
among-last b (c ∷ bs) = inr (among-last b bs)

no-child : (P : List ℕ → Type 0) (s : TrieSlot) → is_child s ≡ false → ChildIn P s
no-child P empty is = tt
no-child P (bucket es) is = tt
no-child P (child id) is = absurd cc

-- the slot that stands at the end where nothing is planned
pub planned-bare : (held : List (List ℕ)) (s : TrieSlot) (plan : List (List ℕ)) → is_child s ≡ false → plan ≡ [] → IsPlanned held s plan
planned-bare held s plan bare none = record { rises = subst (λ (bs : List (List ℕ)). Rising held [] bs) (sym none) tt; link = no-child _ s bare }

-- a bucket takes all entries
lifts-bare : (slots : List TrieSlot) (s above : TrieSlot) (plan : List (List ℕ)) → is_child above ≡ false → LiftsOver slots s above plan plan
lifts-bare slots s above plan bare = record {
  few = omega arith;
  nodes = λ all. all;
  planned = λ held links was. record { rises = was.rises; link = no-child _ above bare };
}

pub ok-bare : {E : Type 0} (r : Result (Option NewHold) E) (slots : List TrieSlot) (s : TrieSlot) (plan : List (List ℕ)) → IfOk r (λ o. is_child (slot_seen o) ≡ false) → IfOk r (λ o. LiftsOver slots s (slot_seen o) plan plan)
ok-bare (Ok o) slots s plan bare = lifts-bare slots s (slot_seen o) plan bare
ok-bare (Err e) slots s plan bare = tt

-- the node's block is planned
pub lifts-block : (slots : List TrieSlot) (i : ℕ) (s : TrieSlot) (block id : List ℕ) (old new : List (List ℕ)) → block ≡ spell (node_data (set slots i s)) → id ≡ id_of block → new ≡ old ++ block ∷ [] → LiftsOver slots s (child id) old new
lifts-block slots i s block id old new spells named adds = record {
  few = omega (arith, ap length adds ∙ length-append old (block ∷ []));
  nodes = λ all. subst (λ (bs : List (List ℕ)). AllByRecursion SpellsNode bs) (sym adds) (all_push SpellsNode old block all (record { slots = set slots i s; spelled = spells }));
  planned = λ held links was.
      subst (λ (bs : List (List ℕ)). IsPlanned held (child id) bs) (sym adds) (record {
        rises = rising-append held [] old (block ∷ []) was.rises (
          record {
            slots = set slots i s;
            is = spells;
            children = all-set (ChildIn (λ c. IsSome (block_at held c) ⊎ IsIdAmong old c)) slots i s (children-more _ _ slots (λ c there. inl there) links) was.link;
          },
          tt,
        );
        link = inr (record { block = block; among = among-last block old; named = sym named });
      });
}

-- ---- the loop

-- what a climb has planned when these blocks of those at the beginning are left
pub record ClimbedOver (p : HamtShape) (bs : List (List ℕ)) (s : TrieSlot) (old : List (List ℕ)) (left : List (List ℕ)) (now : TrieSlot) (plan : List (List ℕ)) : Type 0 where
  pub few : length plan + length left ≤ length old + length bs
  pub nodes : AllByRecursion SpellsNode old → AllByRecursion SpellsNode plan
  pub links : (held : List (List ℕ)) → All (HoldsLinksOf p held) bs → All (HoldsLinksOf p held) left
  pub planned : (held : List (List ℕ)) → All (HoldsLinksOf p held) bs → IsPlanned held s old → IsPlanned held now plan

pub climbed-first : (p : HamtShape) (bs : List (List ℕ)) (s : TrieSlot) (old : List (List ℕ)) → ClimbedOver p bs s old bs s old
climbed-first p bs s old = record { few = omega arith; nodes = λ all. all; links = λ held all. all; planned = λ held all was. was }

pub climbed-more : (p : HamtShape) (bs : List (List ℕ)) (s : TrieSlot) (old left rest : List (List ℕ)) (b : List ℕ) (slots : List TrieSlot) (now above : TrieSlot) (plan new : List (List ℕ)) → ClimbedOver p bs s old left now plan
    → left ≡ rest ++ b ∷ [] → IsNodeOf p b slots → LiftsOver slots now above plan new → ClimbedOver p bs s old rest above new
climbed-more p bs s old left rest b slots now above plan new was pops node lifts = record {
  few = let a = was.few in let l = lifts.few in omega (arith, a, l, ap length pops ∙ length-append rest (b ∷ []));
  nodes = λ all. lifts.nodes (was.nodes all);
  links = λ held all. (All-pop (HoldsLinksOf p held) left rest (Some b) pops (was.links held all)).0;
  planned = λ held all start. lifts.planned held ((All-pop (HoldsLinksOf p held) left rest (Some b) pops (was.links held all)).1 slots node) (was.planned held all start);
}

pub climbed-last : (p : HamtShape) (bs : List (List ℕ)) (s : TrieSlot) (old left : List (List ℕ)) (now : TrieSlot) (plan : List (List ℕ)) → ClimbedOver p bs s old left now plan → ClimbsOver p bs s old plan
climbed-last p bs s old left now plan was = record {
  few = let a = was.few in omega (arith, a);
  nodes = was.nodes;
  rises = λ held all start. (was.planned held all start).rises;
}

pub climbs-none : (p : HamtShape) (bs : List (List ℕ)) (s : TrieSlot) (plan : List (List ℕ)) → ClimbsOver p bs s plan plan
climbs-none p bs s plan = record { few = omega arith; nodes = λ all. all; rises = λ held all start. start.rises }

pub ok-all : {E : Type 0} (r : Result (List ℕ) E) (Q : Type 0) → Q → IfOk r (λ b. Q)
ok-all (Ok b) Q q = q
ok-all (Err e) Q q = tt

pub ok-spelled : {E : Type 0} (p : HamtShape) (r : Result (List ℕ) E) (slots : List TrieSlot) → IfOk r (λ b. IsNodeBlock p slots b) → IfOk r (λ b. b ≡ spell (node_data slots))
ok-spelled p (Ok b) slots is = is.spelled
ok-spelled p (Err e) slots is = tt

pub ok-written : {E : Type 0} (p : HamtShape) (r : Result (List ℕ) E) (slots : List TrieSlot) → IfOk r (λ b. IsNodeBlock p slots b) → IfOk r (IsWritten p)
ok-written p (Ok b) slots is = record { slots = slots; block = is }
ok-written p (Err e) slots is = tt
