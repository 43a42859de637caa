-- The lines on `err`.
use Rattle.std.specs.Prelude.{ℕ, List, [], ◌∷◌, ◌++◌, codes, decimal}

-- a code with its name, and the file's word
abbrev pub about_file : List ℕ → List ℕ → List ℕ
about_file code word = code ++ (word ++ 10 ∷ [])

abbrev pub read_fault_line : List ℕ → List ℕ
read_fault_line word = about_file (codes "R ReadFault: ") word

abbrev pub no_file_line : List ℕ → List ℕ
no_file_line word = about_file (codes "I1 NoFile: ") word

abbrev pub file_too_long_line : List ℕ → List ℕ
file_too_long_line word = about_file (codes "I2 FileTooLong: ") word

-- how a command line is written
abbrev pub usage_text : List ℕ
usage_text =
    codes "usage: pb check PROGRAM\n"
    ++ (codes "       pb choices PROGRAM\n"
    ++ (codes "       pb run [--workers N] [--depth D] [--grain G] [--pool serial|locked|steal] [--trace] PROGRAM CONFIG TRANSFORM INPUT..\n"
    ++ (codes "       pb tune [--up-to S] PROGRAM TRANSFORM\n"
    ++ codes "       pb demo SEED SIZE WORKERS\n")))

abbrev pub bad_header_line : List ℕ → List ℕ
bad_header_line file = about_file (codes "M1 BadHeader: ") file

abbrev pub bad_number_line : List ℕ → ℕ → List ℕ
bad_number_line file word = codes "M2 BadNumber: " ++ (file ++ (codes " word " ++ (decimal word ++ 10 ∷ [])))

abbrev pub too_few_line : List ℕ → ℕ → ℕ → List ℕ
too_few_line file wanted found =
    codes "M3 TooFew: " ++ (file ++ (codes " wanted " ++ (decimal wanted ++ (codes " found " ++ (decimal found ++ 10 ∷ [])))))

abbrev pub too_many_line : List ℕ → ℕ → List ℕ
too_many_line file wanted = codes "M4 TooMany: " ++ (file ++ (codes " wanted " ++ (decimal wanted ++ 10 ∷ [])))
