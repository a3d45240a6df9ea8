-- A whole walk, from the root to its end.
use Rattle.std.proofs.Common.{◌≡◌, ◌↔◌, ℕ, ◌+◌, ◌-◌, ◌≤◌, List, [], ◌∷◌, ◌++◌, map, Option, Some, None, refl, sym, ap, ◌∙◌, subst, arith, append_assoc, append-nil}
use Rattle.std.specs.Prelude.{Result, Ok, Err}
use Rattle.std.specs.Global.{Vec}
use Rattle.std.specs.List.Sorted.{IsPermutation}
use Rattle.std.proofs.lemmas.List.{length-append, map-append}
use Rattle.std.proofs.lemmas.List.Elements.{All-nil, All-same, All-push}
use Rattle.std.proofs.lemmas.List.Sorted.{All-permutation, IsPermutation-map}
use Rattle.ild_data.specs.declared.hamt_shape.HamtShape.{HamtShape}
use Rattle.ild_data.specs.Data.{Data}
use Rattle.ild_data.specs.Spell.{spell}
use Rattle.ild_data.specs.Trie.{TrieSlot}
use Rattle.ild_data.specs.TrieShape.{trie_levels}
use Rattle.ild_edges.specs.Gained.{FromBlocks}
use Rattle.ild_edges.specs.Store.{Moment}
use Rattle.ild_edges.proofs.Later.{Later-refl, Later-trans}
use Rattle.ild_edges.proofs.Reading.{from_told, from_nothing, from_later, from_both}
use Rattle.ild_node_slots.specs.declared.fault.HamtFault.{HamtFault}
use Rattle.ild_node_slots.specs.declared.fault.HamtFault.TheVariants as F
use Rattle.ild_bulk_walker.specs.Ahead.{Ahead, BeginsWith, IsNew, IsNewOn, IsNewLeft, NextAnswer, Nexts}
use Rattle.ild_bulk_walker.specs.Checked.{ReadsTree, GivesNone, StopsWith, GivesMany, GivesRows, Checks, Walks, InKeyOrder, row_pair, spelled_pair, Behind, Walked, HasWalked, HasListed}
use Rattle.ild_bulk_walker.specs.Gives.{RootGives}
use Rattle.ild_bulk_walker.specs.Reads.{LeftNodes, Spends}
use Rattle.ild_bulk_walker.specs.Standing.{IsOn, IsBroken, StandsThere}
use Rattle.ild_bulk_walker.specs.declared.row.Row.{Row}
use Rattle.ild_bulk_walker.specs.declared.walker.Walker.{Walker}
use Rattle.ild_node_slots.specs.Form.{IsNode}
use Rattle.ild_bulk_walker.proofs.Keeping.{broken-since}
use Rattle.ild_bulk_walker.proofs.Listing.{rows-rise}
use Rattle.ild_bulk_walker.proofs.Nexting.{rose-later, cause-later}
use Rattle.ild_bulk_walker.proofs.Resuming.{only-reads}

from-root : (p : HamtShape) (h : List ℕ → List ℕ) (slots : List TrieSlot) (m : Moment) (w : Walker) (held : List (List ℕ)) → IsNew p slots w → (es : List (List ℕ × Data)) → RootGives h p held (trie_levels p - 1) slots es ↔ Behind h p held [] w es
from-root p h slots m w held new es = (
  λ r. record { rest = es; is = refl; ahead = (new h held es).1 r },
  λ b. subst (λ xs. RootGives h p held (trie_levels p - 1) slots xs) (sym b.is) ((new h held b.rest).0 b.ahead),
)

pub begun : (p : HamtShape) (h : List ℕ → List ℕ) (slots : List TrieSlot) (at : List ℕ) (AreDone : List (List ℕ × Data) → Type 0) (m : Moment) (w : Walker) → AreDone [] → IsNew p slots w → IsNewOn p slots at w → IsNewLeft p slots w → w.given ≡ 0 → HasWalked h p slots at AreDone m w m
begun p h slots at AreDone m w are new on left none = record {
  walked = from_nothing m (λ held. Walked h p held slots AreDone w) (λ held. record { done = []; are = are; many = sym none; ahead = from-root p h slots m w held new });
  on = on m.blocks;
  spent = λ held many told nodes. record { left = many; nodes = left held many nodes; gets = omega arith };
  later = Later-refl m;
  blocks = refl;
  given = refl;
  puts = refl;
}

-- a row more
abbrev IsRow : (List ℕ → List ℕ) → HamtShape → Walker → Row → Data → Walker → List (List ℕ) → Type 0
IsRow h p v row value w held = (es : List (List ℕ × Data)) → Ahead h p held v es ↔ BeginsWith h p held row.key value w es

walked-one : (p : HamtShape) (h : List ℕ → List ℕ) (slots : List TrieSlot) (held : List (List ℕ)) (P Q : List (List ℕ × Data) → Type 0) (v w : Walker) (row : Row) (value : Data) → (es : List (List ℕ × Data)) → IsRow h p v row value w held
    → (b : Walked h p held slots P v) → RootGives h p held (trie_levels p - 1) slots es ↔ Behind h p held (b.done ++ (row.key, value) ∷ []) w es
walked-one p h slots held P Q v w row value es ahead b = (
  λ r.
      let u = (b.ahead es).0 r in
      let f = (ahead u.rest).0 u.ahead in
      record { rest = f.rest; is = u.is ∙ ap (λ xs. b.done ++ xs) f.is ∙ sym (append_assoc b.done ((row.key, value) ∷ []) f.rest); ahead = f.ahead },
  λ s.
      (b.ahead es).1 (record {
        rest = (row.key, value) ∷ s.rest;
        is = s.is ∙ append_assoc b.done ((row.key, value) ∷ []) s.rest;
        ahead = (ahead ((row.key, value) ∷ s.rest)).1 (record { rest = s.rest; is = refl; ahead = s.ahead });
      }),
)

pub walked-more : (p : HamtShape) (h : List ℕ → List ℕ) (slots : List TrieSlot) (at : List ℕ) (P Q : List (List ℕ × Data) → Type 0) (m n o : Moment) (v w : Walker) (row : Row) → ((done : List (List ℕ × Data)) (value : Data) → row.value ≡ spell value → P done → Q (done ++ (row.key, value) ∷ []))
    → HasWalked h p slots at P m v n → Nexts h p n v (Ok (Some row)) w o → HasWalked h p slots at Q m w o
walked-more p h slots at P Q m n o v w row more was next = record {
  walked = from_both o (λ held. Walked h p held slots P v) (IsRow h p v row next.answer.value w) (λ held. Walked h p held slots Q w) step (from_later n o (λ held. Walked h p held slots P v) (only-reads (trie_levels p) n o next.only) was.walked) next.answer.ahead;
  on = subst (λ told. IsOn p told slots at w) was.blocks (next.on slots at (subst (λ told. IsOn p told slots at v) (sym was.blocks) was.on)).0;
  spent = λ held many told nodes. let s = was.spent held many told nodes in let q = next.reads held (was.blocks ∙ told) s.left s.nodes in record { left = q.left; nodes = q.nodes; gets = let one = s.gets in let two = q.gets in omega arith };
  later = Later-trans m n o was.later next.only.later;
  blocks = next.only.blocks ∙ was.blocks;
  given = next.only.given ∙ was.given;
  puts = next.only.puts ∙ was.puts;
}
  where
    step : (held : List (List ℕ)) → Walked h p held slots P v → IsRow h p v row next.answer.value w held → Walked h p held slots Q w
    step held b ahead = record {
      done = b.done ++ (row.key, next.answer.value) ∷ [];
      are = more b.done next.answer.value next.answer.spelled b.are;
      many = length-append b.done ((row.key, next.answer.value) ∷ []) ∙ ap (λ k. k + 1) b.many ∙ sym next.counts.0;
      ahead = λ es. walked-one p h slots held P Q v w row next.answer.value es ahead b;
    }

pub any-more : (row : Row) → (done : List (List ℕ × Data)) (value : Data) → row.value ≡ spell value → Unit {0} → Unit {0}
any-more row done value spelled u = u

-- what the gets were so far, and a call that ends the walk
ended : (p : HamtShape) (h : List ℕ → List ℕ) (slots : List TrieSlot) (at : List ℕ) (P : List (List ℕ × Data) → Type 0) (m n o : Moment) (v w : Walker) (r : Result (Option Row) HamtFault) → HasWalked h p slots at P m v n → Nexts h p n v r w o → ReadsTree p slots m o
ended p h slots at P m n o v w r was next = record {
  later = Later-trans m n o was.later next.only.later;
  blocks = next.only.blocks ∙ was.blocks;
  given = next.only.given ∙ was.given;
  puts = next.only.puts ∙ was.puts;
  gets = λ held many told nodes. let y = was.spent held many told nodes in let one = y.gets in let two = by r (next.reads held (was.blocks ∙ told)) y.left y.nodes in omega arith;
}
  where
    by : {held : List (List ℕ)} (r : Result (Option Row) HamtFault) → Spends p held n.gets o.gets v r w → (k : ℕ) → LeftNodes p held v k → o.gets ≤ n.gets + k
    by (Ok x) s = λ k l. let q = s k l in let gets = q.gets in omega arith
    by (Err e) s = s

pub still-reads : (p : HamtShape) (h : List ℕ → List ℕ) (slots : List TrieSlot) (at : List ℕ) (P : List (List ℕ × Data) → Type 0) (m n : Moment) (w : Walker) → HasWalked h p slots at P m w n → ReadsTree p slots m n
still-reads p h slots at P m n w was = record {
  later = was.later;
  blocks = was.blocks;
  given = was.given;
  puts = was.puts;
  gets = λ held many told nodes. let q = was.spent held many told nodes in let one = q.gets in omega arith;
}

pub no-reads : (p : HamtShape) (slots : List TrieSlot) (m : Moment) → ReadsTree p slots m m
no-reads p slots m = record { later = Later-refl m; blocks = refl; given = refl; puts = refl; gets = λ held many told nodes. omega arith }

-- nothing is ahead
abbrev IsDone : (List ℕ → List ℕ) → HamtShape → Walker → List (List ℕ) → Type 0
IsDone h p v held = (es : List (List ℕ × Data)) → Ahead h p held v es ↔ (es ≡ [])

-- all entries were given
all-given : (p : HamtShape) (h : List ℕ → List ℕ) (slots : List TrieSlot) (P : List (List ℕ × Data) → Type 0) (v : Walker) (held : List (List ℕ)) → (b : Walked h p held slots P v) → IsDone h p v held → RootGives h p held (trie_levels p - 1) slots b.done
all-given p h slots P v held b done = (b.ahead b.done).1 (record { rest = []; is = sym (append-nil b.done); ahead = (done []).1 refl })

-- what follows from all that was given, and that it was all
from-all : (p : HamtShape) (h : List ℕ → List ℕ) (slots : List TrieSlot) (at : List ℕ) (P : List (List ℕ × Data) → Type 0) (Q : List (List ℕ) → Type 0) (m n o : Moment) (v w : Walker) → HasWalked h p slots at P m v n → Nexts h p n v (Ok None) w o
    → ((held : List (List ℕ)) → (b : Walked h p held slots P v) → RootGives h p held (trie_levels p - 1) slots b.done → Q held) → FromBlocks o Q
from-all p h slots at P Q m n o v w was next so =
    from_both o (λ held. Walked h p held slots P v) (IsDone h p v) Q (λ held b done. so held b (all-given p h slots P v held b done)) (from_later n o (λ held. Walked h p held slots P v) (only-reads (trie_levels p) n o next.only) was.walked) next.answer

pub walked-end : (p : HamtShape) (h : List ℕ → List ℕ) (slots : List TrieSlot) (at : List ℕ) (m n o : Moment) (v w : Walker) (count : ℕ) → HasWalked h p slots at (λ done. Unit {0}) m v n → Nexts h p n v (Ok None) w o → w.given ≡ count → Checks h p slots at m (Ok count) o
walked-end p h slots at m n o v w count was next is = record {
  answer = from-all p h slots at (λ done. Unit {0}) (λ held. GivesMany h p held slots count) m n o v w was next (λ held b gives. record { entries = b.done; many = b.many ∙ sym next.counts ∙ is; gives = gives });
  broken = tt;
  reads = ended p h slots at (λ done. Unit {0}) m n o v w (Ok None) was next;
}

pub stopped : (p : HamtShape) (h : List ℕ → List ℕ) (slots : List TrieSlot) (at : List ℕ) (P : List (List ℕ × Data) → Type 0) (m n o : Moment) (v w : Walker) (e : HamtFault) → HasWalked h p slots at P m v n → Nexts h p n v (Err e) w o → StopsWith h p slots m e o
stopped p h slots at P m n o v w e was next = by e next.answer
  where
    none : ((held : List (List ℕ)) (es : List (List ℕ × Data)) → n.blocks ≡ Some held → Ahead h p held v es → ⊥) → GivesNone h p slots m
    none no_more held es told r = let u = ((from_told n (λ held. Walked h p held slots P v) was.walked held (was.blocks ∙ told)).ahead es).0 r in no_more held u.rest (was.blocks ∙ told) u.ahead

    by : (e : HamtFault) → NextAnswer h p n v (Err e) w o → StopsWith h p slots m e o
    by F.Store q = rose-later m.faults n.faults o.faults was.later.faults q.0
    by F.Memory q = tt
    by (F.Block id why) q = (cause-later p m n o (F.Block id why) was.later was.blocks q.0, none q.1)
    by F.Exhausted q = absurd q.0
    by (F.Clash id kept new) q = absurd q.0
    by F.Size q = absurd q.0
    by F.NoKey q = absurd q.0

pub stopped-broken : (p : HamtShape) (h : List ℕ → List ℕ) (slots : List TrieSlot) (at : List ℕ) (P : List (List ℕ × Data) → Type 0) (m n o : Moment) (v w : Walker) (e : HamtFault) → HasWalked h p slots at P m v n → Nexts h p n v (Err e) w o → IsBroken h p m.blocks slots at m.lacks o.lacks e
stopped-broken p h slots at P m n o v w e was next =
    let q = next.on slots at (subst (λ told. IsOn p told slots at v) (sym was.blocks) was.on) in
    broken-since p h m.blocks slots at m.lacks n.lacks o.lacks e was.later.lacks (subst (λ told. IsBroken h p told slots at n.lacks o.lacks e) was.blocks q.1)

pub walked-stop : (p : HamtShape) (h : List ℕ → List ℕ) (slots : List TrieSlot) (at : List ℕ) (P : List (List ℕ × Data) → Type 0) (m n o : Moment) (v w : Walker) (e : HamtFault) → HasWalked h p slots at P m v n → Nexts h p n v (Err e) w o → Checks h p slots at m (Err e) o
walked-stop p h slots at P m n o v w e was next =
    record { answer = stopped p h slots at P m n o v w e was next; broken = stopped-broken p h slots at P m n o v w e was next; reads = ended p h slots at P m n o v w (Err e) was next }

pub check-memory : (p : HamtShape) (h : List ℕ → List ℕ) (slots : List TrieSlot) (at : List ℕ) (m : Moment) → Checks h p slots at m (Err F.Memory) m
check-memory p h slots at m = record { answer = tt; broken = tt; reads = no-reads p slots m }

pub none-of : (o : Option Row) → ((row : Row) → o ≡ Some row → ⊥) → o ≡ None
none-of None other = refl
none-of (Some row) other = absurd (other row refl)

-- ---- listing

pub listed-none : (p : HamtShape) (h : List ℕ → List ℕ) (slots : List TrieSlot) (at : List ℕ) (m : Moment) (w : Walker) → IsNew p slots w → IsNewOn p slots at w → IsNewLeft p slots w → w.given ≡ 0 → HasListed h p slots at [] m w m
listed-none p h slots at m w new on left none = record { walk = begun p h slots at (λ done. map spelled_pair done ≡ map row_pair []) m w refl new on left none; stand = All-nil (StandsThere p m.blocks slots at) }

pub listed-more : (p : HamtShape) (h : List ℕ → List ℕ) (slots : List TrieSlot) (at : List ℕ) (rows more : List Row) (m n o : Moment) (v w : Walker) (row : Row) → more ≡ rows ++ row ∷ [] → HasListed h p slots at rows m v n → Nexts h p n v (Ok (Some row)) w o → HasListed h p slots at more m w o
listed-more p h slots at rows more m n o v w row is was next = record {
  walk = walked-more p h slots at (λ done. map spelled_pair done ≡ map row_pair rows) (λ done. map spelled_pair done ≡ map row_pair more) m n o v w row pairs was.walk next;
  stand = All-same (StandsThere p m.blocks slots at) more (rows ++ row ∷ []) is
      (All-push (StandsThere p m.blocks slots at) rows row was.stand (subst (λ told. StandsThere p told slots at row) was.walk.blocks (next.row slots at (subst (λ told. IsOn p told slots at v) (sym was.walk.blocks) was.walk.on))));
}
  where
    pairs : (done : List (List ℕ × Data)) (value : Data) → row.value ≡ spell value → map spelled_pair done ≡ map row_pair rows → map spelled_pair (done ++ (row.key, value) ∷ []) ≡ map row_pair more
    pairs done value spelled same =
        map-append spelled_pair done ((row.key, value) ∷ []) ∙ ap (λ xs. xs ++ (row.key, spell value) ∷ []) same ∙ ap (λ x. map row_pair rows ++ (row.key, x) ∷ []) (sym spelled) ∙ sym (map-append row_pair rows (row ∷ [])) ∙ ap (map row_pair) (sym is)

pub listed-end : (p : HamtShape) (h : List ℕ → List ℕ) (slots : List TrieSlot) (at : List ℕ) (rows : List Row) (m n o : Moment) (v w : Walker) (sorted : Vec Row) → IsNode p slots → HasListed h p slots at rows m v n → Nexts h p n v (Ok None) w o → IsPermutation rows sorted.items → InKeyOrder sorted.items → Walks h p slots at m (Ok sorted) o
listed-end p h slots at rows m n o v w sorted form was next same order = record {
  answer = from-all p h slots at (λ done. map spelled_pair done ≡ map row_pair rows) (λ held. GivesRows h p held slots sorted.items) m n o v w was.walk next (λ held b gives.
      let moved : IsPermutation (map spelled_pair b.done) (map row_pair sorted.items) = subst (λ xs. IsPermutation xs (map row_pair sorted.items)) (sym b.are) (IsPermutation-map row_pair rows sorted.items same) in
      record { entries = b.done; gives = gives; same = moved; rise = rows-rise p h held slots b.done sorted.items form gives moved order });
  order = order;
  stand = All-permutation (StandsThere p m.blocks slots at) rows sorted.items same was.stand;
  broken = tt;
  reads = ended p h slots at (λ done. map spelled_pair done ≡ map row_pair rows) m n o v w (Ok None) was.walk next;
}

pub listed-stop : (p : HamtShape) (h : List ℕ → List ℕ) (slots : List TrieSlot) (at : List ℕ) (rows : List Row) (m n o : Moment) (v w : Walker) (e : HamtFault) → HasListed h p slots at rows m v n → Nexts h p n v (Err e) w o → Walks h p slots at m (Err e) o
listed-stop p h slots at rows m n o v w e was next = record {
  answer = stopped p h slots at (λ done. map spelled_pair done ≡ map row_pair rows) m n o v w e was.walk next;
  order = tt;
  stand = tt;
  broken = stopped-broken p h slots at (λ done. map spelled_pair done ≡ map row_pair rows) m n o v w e was.walk next;
  reads = ended p h slots at (λ done. map spelled_pair done ≡ map row_pair rows) m n o v w (Err e) was.walk next;
}

pub walk-memory : (p : HamtShape) (h : List ℕ → List ℕ) (slots : List TrieSlot) (at : List ℕ) (m n : Moment) → ReadsTree p slots m n → Walks h p slots at m (Err F.Memory) n
walk-memory p h slots at m n reads = record { answer = tt; order = tt; stand = tt; broken = tt; reads = reads }

-- no memory is left for a row
pub listed-full : (p : HamtShape) (h : List ℕ → List ℕ) (slots : List TrieSlot) (at : List ℕ) (rows : List Row) (m n o : Moment) (v w : Walker) (row : Row) → HasListed h p slots at rows m v n → Nexts h p n v (Ok (Some row)) w o → Walks h p slots at m (Err F.Memory) o
listed-full p h slots at rows m n o v w row was next = walk-memory p h slots at m o (ended p h slots at (λ done. map spelled_pair done ≡ map row_pair rows) m n o v w (Ok (Some row)) was.walk next)
