-- The text of rows, part by part.
use Rattle.std.proofs.Common.{◌≡◌, ℕ, List, [], ◌++◌, Result, IfOk, Vec, subst, sym, ap, ◌∙◌, append_assoc}
use Rattle.std.proofs.lemmas.List.Concat.{flat_map-append}
use Rattle.std.specs.declared.alloc.AllocError.{AllocError}
use Rattle.std.specs.declared.alloc.Global.{Global}
use Rattle.th_csv.specs.Records.{Fields}
use Rattle.th_csv.specs.Texts.{csv_text, row_text}

-- the text of parts that stand one after the other
pub text_joined : (front a b c d e : List Fields) → csv_text (front ++ (a ++ (b ++ (c ++ (d ++ e))))) ≡ ((((csv_text front ++ csv_text a) ++ csv_text b) ++ csv_text c) ++ csv_text d) ++ csv_text e
text_joined front a b c d e =
    flat_map-append row_text front (a ++ (b ++ (c ++ (d ++ e))))
    ∙ ap (λ rest. csv_text front ++ rest) (flat_map-append row_text a (b ++ (c ++ (d ++ e))))
    ∙ ap (λ rest. csv_text front ++ (csv_text a ++ rest)) (flat_map-append row_text b (c ++ (d ++ e)))
    ∙ ap (λ rest. csv_text front ++ (csv_text a ++ (csv_text b ++ rest))) (flat_map-append row_text c (d ++ e))
    ∙ ap (λ rest. csv_text front ++ (csv_text a ++ (csv_text b ++ (csv_text c ++ rest)))) (flat_map-append row_text d e)
    ∙ sym (simp append_assoc)

-- what was written part by part
pub written_joined : (t0 t1 t2 t3 t4 t5 t6 : List ℕ) (front a b c d e : List Fields) → t0 ≡ [] → t1 ≡ t0 ++ csv_text front → t2 ≡ t1 ++ csv_text a → t3 ≡ t2 ++ csv_text b → t4 ≡ t3 ++ csv_text c
    → t5 ≡ t4 ++ csv_text d → t6 ≡ t5 ++ csv_text e → t6 ≡ csv_text (front ++ (a ++ (b ++ (c ++ (d ++ e)))))
written_joined t0 t1 t2 t3 t4 t5 t6 front a b c d e e0 e1 e2 e3 e4 e5 e6 =
    let f1 : t1 ≡ csv_text front = e1 ∙ ap (λ t. t ++ csv_text front) e0 in
    let f2 : t2 ≡ csv_text front ++ csv_text a = e2 ∙ ap (λ t. t ++ csv_text a) f1 in
    let f3 : t3 ≡ (csv_text front ++ csv_text a) ++ csv_text b = e3 ∙ ap (λ t. t ++ csv_text b) f2 in
    let f4 : t4 ≡ ((csv_text front ++ csv_text a) ++ csv_text b) ++ csv_text c = e4 ∙ ap (λ t. t ++ csv_text c) f3 in
    let f5 : t5 ≡ (((csv_text front ++ csv_text a) ++ csv_text b) ++ csv_text c) ++ csv_text d = e5 ∙ ap (λ t. t ++ csv_text d) f4 in
    e6 ∙ ap (λ t. t ++ csv_text e) f5 ∙ sym (text_joined front a b c d e)

-- a text that is made holds another that is the same
pub holds_same : (result : Result (Vec ℕ Global) AllocError) (text other : List ℕ) → IfOk result (λ made. made.items ≡ text) → text ≡ other → IfOk result (λ made. made.items ≡ other)
holds_same result text other h same = subst (λ t. IfOk result (λ made. made.items ≡ t)) same h
