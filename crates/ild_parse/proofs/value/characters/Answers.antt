use Rattle.std.proofs.Common.{◌≡◌, refl, ℕ, ◌++◌, ◌∷◌, [], Bool, true, false, List, length, drop, subst, sym, ap, ◌∙◌, arith}
use Rattle.std.specs.Prelude.{string_bytes, ◌==◌}
use Rattle.std.specs.Str.{chars, encode_utf8_all}
use Rattle.std.proofs.lemmas.Bool.{ne_eqb, eq-eqb}
use Rattle.std.proofs.lemmas.List.{length_push, append-nil, at_drop_all}
use Rattle.std.proofs.lemmas.Iterator.{YieldsList-from_chars}
use Rattle.std.proofs.lemmas.Iterator.Consumers.{YieldsList-turn, YieldsList-end}
use Rattle.ild_parse_grammar.specs.Value.{unescaped}
use Rattle.ild_parse.proofs.Values.{kept_behind, kept_plain, passed_backslash}
use Rattle.ild_parse.proofs.value.characters.Goals as goal

pub loop-c-preserved-then-behind : goal.loop-c-preserved-then-behind
loop-c-preserved-then-behind c =
    let t = YieldsList-turn (YieldsList-from_chars c.args.inside.now c.utf8.inside cc) c.loop-c.yielded _ c.loop-c.yielded_by _ _ c.in-Some.c c.in-Some.is c.next.ensures.steps in
    let cs : List ℕ = chars c.args.inside.now in
    let all : List ℕ = encode_utf8_all (unescaped false cs) in
    let h = subst (λ (b : Bool). string_bytes c.loop-c.text ++ encode_utf8_all (unescaped b (drop (length c.loop-c.yielded) cs)) ≡ all) c.if-behind.true c.loop-c.invariant in
    rw (c.in_ok-push.ensures.bytes, length_push c.loop-c.yielded c.in-Some.c) (kept_behind (string_bytes c.loop-c.text) cs all (length c.loop-c.yielded) c.in-Some.c t.0 t.1 h)

pub loop-c-preserved-then-c-eq92 : goal.loop-c-preserved-then-c-eq92
loop-c-preserved-then-c-eq92 c =
    let t = YieldsList-turn (YieldsList-from_chars c.args.inside.now c.utf8.inside cc) c.loop-c.yielded _ c.loop-c.yielded_by _ _ c.in-Some.c c.in-Some.is c.next.ensures.steps in
    let cs : List ℕ = chars c.args.inside.now in
    let all : List ℕ = encode_utf8_all (unescaped false cs) in
    let h = subst (λ (b : Bool). string_bytes c.loop-c.text ++ encode_utf8_all (unescaped b (drop (length c.loop-c.yielded) cs)) ≡ all) c.if-behind.false c.loop-c.invariant in
    let eq : (c.in-Some.c == 92) ≡ true = eq-eqb c.in-Some.c 92 c.if-c-eq92.true in
    rw (length_push c.loop-c.yielded c.in-Some.c) (passed_backslash (string_bytes c.loop-c.text) cs all (length c.loop-c.yielded) c.in-Some.c t.0 t.1 eq h)

pub loop-c-preserved : goal.loop-c-preserved
loop-c-preserved c =
    let t = YieldsList-turn (YieldsList-from_chars c.args.inside.now c.utf8.inside cc) c.loop-c.yielded _ c.loop-c.yielded_by _ _ c.in-Some.c c.in-Some.is c.next.ensures.steps in
    let cs : List ℕ = chars c.args.inside.now in
    let all : List ℕ = encode_utf8_all (unescaped false cs) in
    let h = subst (λ (b : Bool). string_bytes c.loop-c.text ++ encode_utf8_all (unescaped b (drop (length c.loop-c.yielded) cs)) ≡ all) c.if-behind.false c.loop-c.invariant in
    let ne : (c.in-Some.c == 92) ≡ false = ne_eqb c.in-Some.c 92 c.if-c-eq92.false in
    subst (λ (b : Bool). string_bytes c.push-else-c-eq92.new.self ++ encode_utf8_all (unescaped b (drop (length (c.loop-c.yielded ++ c.in-Some.c ∷ [])) cs)) ≡ all) (sym c.if-behind.false)
    (rw (c.in_ok-push-2.ensures.bytes, length_push c.loop-c.yielded c.in-Some.c) (kept_plain (string_bytes c.loop-c.text) cs all (length c.loop-c.yielded) c.in-Some.c t.0 t.1 ne h))

pub returns : goal.returns
returns c =
    let t = YieldsList-end (YieldsList-from_chars c.args.inside.now c.utf8.inside cc) c.loop-c.yielded _ c.loop-c.yielded_by _ _ c.in-None.is c.next.ensures.steps in
    let cs : List ℕ = chars c.args.inside.now in
    let left : encode_utf8_all (unescaped c.loop-c.behind (drop (length c.loop-c.yielded) cs)) ≡ [] = at_drop_all (λ (x : List ℕ). encode_utf8_all (unescaped c.loop-c.behind x)) cs (length c.loop-c.yielded) (omega (arith, t.1)) ∙ none_left c.loop-c.behind in
    sym (append-nil (string_bytes c.loop-c.text)) ∙ ap (λ (x : List ℕ). string_bytes c.loop-c.text ++ x) (sym left) ∙ c.loop-c.invariant
  where
    none_left : (behind : Bool) → encode_utf8_all (unescaped behind []) ≡ []
    none_left true = refl
    none_left false = refl
