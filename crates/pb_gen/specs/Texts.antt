-- The texts of the two programs.
use Rattle.std.specs.Prelude.{ℕ, zero, suc, List, [], ◌∷◌, ◌++◌, flat_map, codes}

-- a line, and the byte that ends it
abbrev pub line_text : List ℕ → List ℕ
line_text line = line ++ (10 ∷ [])

abbrev pub multiply_lines : List (List ℕ)
multiply_lines =
    codes "transform MatrixAdd from A[w,h], B[w,h] to C[w,h] {"
    ∷ codes "  to (C.cell(x,y) c) from (A.cell(x,y) a, B.cell(x,y) b) { c = a + b; }"
    ∷ codes "}"
    ∷ codes "transform MatrixMultiply from A[c,h], B[w,c] to AB[w,h] {"
    ∷ codes "  to (AB.cell(x,y) o) from (A.row(y) a, B.column(x) b) { o = dot(a, b); }"
    ∷ codes "  to (AB ab) from (A.region(0,0,c/2,h) a1, A.region(c/2,0,c,h) a2,"
    ∷ codes "                   B.region(0,0,w,c/2) b1, B.region(0,c/2,w,c) b2) where c >= 2 {"
    ∷ codes "    let t1[w,h]; let t2[w,h];"
    ∷ codes "    t1 = MatrixMultiply(a1, b1);"
    ∷ codes "    t2 = MatrixMultiply(a2, b2);"
    ∷ codes "    ab = MatrixAdd(t1, t2);"
    ∷ codes "  }"
    ∷ codes "  to (AB.region(0,0,w/2,h) p, AB.region(w/2,0,w,h) q)"
    ∷ codes "  from (A a, B.region(0,0,w/2,c) b1, B.region(w/2,0,w,c) b2) where w >= 2 {"
    ∷ codes "    p = MatrixMultiply(a, b1);"
    ∷ codes "    q = MatrixMultiply(a, b2);"
    ∷ codes "  }"
    ∷ codes "  to (AB.region(0,0,w,h/2) p, AB.region(0,h/2,w,h) q)"
    ∷ codes "  from (A.region(0,0,c,h/2) a1, A.region(0,h/2,c,h) a2, B b) where h >= 2 {"
    ∷ codes "    p = MatrixMultiply(a1, b);"
    ∷ codes "    q = MatrixMultiply(a2, b);"
    ∷ codes "  }"
    ∷ codes "}"
    ∷ []

abbrev pub roll_lines : List (List ℕ)
roll_lines =
    codes "transform RollingSum from A[n] to B[n] {"
    ∷ codes "  to (B.cell(i) b) from (A.region(0, i + 1) a) {"
    ∷ codes "    b = sum(a);"
    ∷ codes "  }"
    ∷ codes "  to (B.cell(i) b) from (A.cell(i) a, B.cell(i - 1) l) {"
    ∷ codes "    b = a + l;"
    ∷ codes "  }"
    ∷ codes "}"
    ∷ []

-- 0 multiplies matrices, 1 makes the rolling sum
abbrev pub text_of : ℕ → List ℕ
text_of zero = flat_map line_text multiply_lines
text_of (suc _) = flat_map line_text roll_lines
