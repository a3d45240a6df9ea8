-- How deep lists and maps nest, part by part.
use Rattle.std.proofs.Common.{◌≡◌, ℕ, ◌+◌, ◌<◌, ◌≤◌, List, [], ◌∷◌, ◌++◌, length, take, map, get_or, Bool, true, false, sym, ◌∙◌, ap, subst, arith}
use Rattle.std.proofs.lemmas.List.{take_all}
use Rattle.ild_data.specs.Data.{Data, Items, Members, depth, items_depth, members_depth, items_of, items_list, members_of, members_list}
use Rattle.ild_data.specs.Seen.{data_of, pair_of}
use Rattle.ild_data.specs.declared.tree.Tree.{Tree}
use Rattle.ild_data.proofs.Lists.{items_of-items_list, members_of-members_list, taken_more}

abbrev pub TreesFit : List Tree → ℕ → ℕ → Type 0
TreesFit ts i room = items_depth (items_of (map data_of (take i ts))) ≤ room

abbrev pub EntriesFit : List (List ℕ × Tree) → ℕ → ℕ → Type 0
EntriesFit ps i room = members_depth (members_of (map pair_of (take i ps))) ≤ room

items_push : (ds : List Data) (d : Data) (room : ℕ) → items_depth (items_of ds) ≤ room → depth d ≤ room → items_depth (items_of (ds ++ d ∷ [])) ≤ room
items_push [] d room h k = omega (arith, h, k)
items_push (x ∷ ds) d room h k = let rest = items_push ds d room (omega (arith, h)) k in omega (arith, h, rest)

members_push : (ms : List (List ℕ × Data)) (m : List ℕ × Data) (room : ℕ) → members_depth (members_of ms) ≤ room → depth m.1 ≤ room → members_depth (members_of (ms ++ m ∷ [])) ≤ room
members_push [] m room h k = omega (arith, h, k)
members_push (x ∷ ms) m room h k = let rest = members_push ms m room (omega (arith, h)) k in omega (arith, h, rest)

pub trees_more : (ts : List Tree) (i : ℕ) (t : Tree) (room : ℕ) → i < length ts → t ≡ get_or ts i t → TreesFit ts i room → depth (data_of t) ≤ room → TreesFit ts (i + 1) room
trees_more ts i t room lt is h k = subst (λ ds. items_depth (items_of ds) ≤ room) (sym (taken_more data_of ts i t lt is)) (items_push (map data_of (take i ts)) (data_of t) room h k)

pub entries_more : (ps : List (List ℕ × Tree)) (i : ℕ) (p : List ℕ × Tree) (room : ℕ) → i < length ps → p ≡ get_or ps i p → EntriesFit ps i room → depth (data_of p.1) ≤ room → EntriesFit ps (i + 1) room
entries_more ps i p room lt is h k = subst (λ ms. members_depth (members_of ms) ≤ room) (sym (taken_more pair_of ps i p lt is)) (members_push (map pair_of (take i ps)) (pair_of p) room h k)

pub trees_all : (ts : List Tree) (ds : Items) (i room : ℕ) → map data_of ts ≡ items_list ds → length ts ≤ i → TreesFit ts i room → items_depth ds ≤ room
trees_all ts ds i room same le h =
    subst (λ es. items_depth es ≤ room) (ap (λ xs. items_of (map data_of xs)) (take_all i ts le) ∙ ap items_of same ∙ items_of-items_list ds) h

pub entries_all : (ps : List (List ℕ × Tree)) (ms : Members) (i room : ℕ) → map pair_of ps ≡ members_list ms → length ps ≤ i → EntriesFit ps i room → members_depth ms ≤ room
entries_all ps ms i room same le h =
    subst (λ es. members_depth es ≤ room) (ap (λ xs. members_of (map pair_of xs)) (take_all i ps le) ∙ ap members_of same ∙ members_of-members_list ms) h

pub not_over : (a b room : ℕ) (r : Bool) → a ≤ b → r ≡ false → ((r ≡ true) → a ≤ room) × (a ≤ room → r ≡ true) → ((false ≡ true) → b ≤ room) × (b ≤ room → false ≡ true)
not_over a b room r le no_fit both = ((λ e. absurd (apart e)), (λ h. sym no_fit ∙ both.1 (omega (arith, le, h))))
  where
    apart : false ≡ true → ⊥
    apart e = absurd cc
