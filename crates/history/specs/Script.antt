-- A list of calls, written as words: six for each call, its number and its arguments. Images stand beside it as one row of bytes, codes as one row of words.
use Rattle.std.specs.Prelude.{ℕ, zero, suc, ◌+◌, ◌*◌, ◌/◌, ◌%◌, cond, List, [], ◌∷◌, ◌++◌, eqb, length, get_or, take, drop, replicate}
use Rattle.history.specs.declared.Encoded.{Encoded}
use Rattle.promises.specs.Survivors.{Call, mark, clear, ask, count, list, save, load, fill, nearest, check}

-- the outputs that list and save get: so many zeros
abbrev pub zeros : ℕ → ℕ → List ℕ
zeros number size = take (number % (size + 1)) (replicate size 0)

-- nearest, or check for every number that is no other call's
abbrev pub last_call_of : Encoded → Call
last_call_of call = cond (eqb call.number 8) (nearest call.a call.b call.c) check

abbrev pub call_of : List ℕ → List ℕ → Encoded → Call
call_of images codes call =
    cond (eqb call.number 0) (mark call.a call.b)
    (cond (eqb call.number 1) (clear call.a call.b)
    (cond (eqb call.number 2) (ask call.a call.b)
    (cond (eqb call.number 3) (count call.a call.b call.c call.d)
    (cond (eqb call.number 4) (list call.a call.b call.c call.d (zeros call.e 16))
    (cond (eqb call.number 5) (save (zeros call.e 64))
    (cond (eqb call.number 6) (load (take call.b (drop call.a images)))
    (cond (eqb call.number 7) (fill (take call.b (drop call.a codes))) (last_call_of call))))))))

abbrev pub encoded_at : List ℕ → ℕ → Encoded
encoded_at script i = record {
  number = get_or script (6 * i) 0;
  a = get_or script (6 * i + 1) 0;
  b = get_or script (6 * i + 2) 0;
  c = get_or script (6 * i + 3) 0;
  d = get_or script (6 * i + 4) 0;
  e = get_or script (6 * i + 5) 0;
}

-- the first n calls of a script
unfoldable pub calls_to : List ℕ → List ℕ → List ℕ → ℕ → List Call
calls_to images codes script zero = []
calls_to images codes script (suc n) = calls_to images codes script n ++ (call_of images codes (encoded_at script n) ∷ [])

abbrev pub calls_of : List ℕ → List ℕ → List ℕ → List Call
calls_of images codes script = calls_to images codes script (length script / 6)
