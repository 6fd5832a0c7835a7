-- What is read is a row exactly if the words begin with the words of a list of bits. Assumes nothing.
use Rattle.std.proofs.Common.{◌≡◌, ℕ, suc, ◌+◌, ◌≤◌, Bool, true, List, [], ◌∷◌, ◌++◌, map, length, get_or, take, drop, Ok, Result, sym, ap, ◌∙◌, subst, arith}
use Rattle.std.specs.List.{range_with_len}
use Rattle.std.proofs.lemmas.List.FromFn.{length-map-range_with_len, length-range_with_len}
use Rattle.std.proofs.lemmas.List.{length-map, length-append, length-take, length-drop, take_at}
use Rattle.std.proofs.lemmas.List.Sums.{length-filter, count_by-le-length}
use Rattle.bits.proofs.StoredLaws.{takes_row, finds_row}
use Rattle.bits.specs.StoredRows.{TakesRow, FindsRow, ReadsRow}
use Rattle.bitmaps.specs.BitRows.{HasBitRow}
use Rattle.bitmaps.specs.declared.fault.BitsFault.{BitsFault}
use Rattle.runs.specs.RunMeaning.{covered_bits}
use Rattle.runs.specs.RunRows.{run_read, run_bits_in, runs_in}
use Rattle.runs.specs.RunWords.{begins_run, run_places, run_word, run_words, run_room}
use Rattle.runs.specs.Runs.{in_runs, runs_fit}
use Rattle.runs.proofs.RunPlaces.{covers_past}
use Rattle.runs.proofs.RunReading.{IsRow, row_facts, row_read}
use Rattle.runs.proofs.RunsAgain.{same_runs}
use Rattle.runs.proofs.RunsOfBits.{words, words_cover, words_fit, bits_again}
use Rattle.bitmaps.proofs.Tested.{one_at_is}

-- lawful runs are the runs of the bits that they tell
module _ (len : ℕ) (ws : List ℕ) (few : len ≤ 67108864) (fit : runs_fit 0 len ws ≡ true) where
  long : length (covered_bits ws len) ≡ len
  long = length-map-range_with_len (in_runs ws) 0 len

  runs_again : map (run_word (covered_bits ws len)) (run_places (covered_bits ws len)) ≡ ws
  runs_again =
      let bits : List Bool = covered_bits ws len in
      let small : length bits ≤ 67108864 = omega (arith, long) in
      same_runs len 0 0 (words bits small) ws
      (subst (λ n. runs_fit 0 n (words bits small) ≡ true) long (words_fit bits small))
      fit
      (λ k. words_cover bits small k ∙ one_at_is (in_runs ws) len (covers_past len ws fit) k)

  pub row_again : run_words (covered_bits ws len) ≡ len ∷ (length ws ∷ ws)
  row_again =
      let places : List ℕ = run_places (covered_bits ws len) in
      let number : length places ≡ length ws = sym (length-map places (run_word (covered_bits ws len))) ∙ ap length runs_again in
      ap (λ n. n ∷ (length places ∷ map (run_word (covered_bits ws len)) places)) long
      ∙ ap (λ n. len ∷ (n ∷ map (run_word (covered_bits ws len)) places)) number
      ∙ ap (λ xs. len ∷ (length ws ∷ xs)) runs_again

cut : (n : ℕ) (ws : List ℕ) → 2 ≤ length ws → take (2 + n) ws ≡ get_or ws 0 0 ∷ (get_or ws 1 0 ∷ take n (drop 2 ws))
cut n [] h = absurd (omega arith)
cut n (x ∷ []) h = absurd (omega arith)
cut n (x ∷ (y ∷ ws)) h = let e : 2 + n ≡ suc (suc n) = omega arith in ap (λ m. take m (x ∷ (y ∷ ws))) e

-- the words of a list of bits are read, whatever follows them
module _ (bits : List Bool) (few : length bits ≤ 67108864) (rest : List ℕ) where
  runs_there : runs_in (run_words bits ++ rest) ≡ words bits few
  runs_there = take_at (words bits few) rest (length (run_places bits)) (length-map (run_places bits) (run_word bits))

  runs_few : length (run_places bits) ≤ length bits
  runs_few =
      omega (arith, length-filter (begins_run bits) (range_with_len 0 (length bits)), count_by-le-length (begins_run bits) (range_with_len 0 (length bits)), length-range_with_len 0 (length bits))

  found_row : run_read (run_words bits ++ rest) ≡ Ok (run_room bits)
  found_row =
      let size : length (words bits few) ≡ length (run_places bits) = length-map (run_places bits) (run_word bits) in
      let all : length (words bits few ++ rest) ≡ length (words bits few) + length rest = length-append (words bits few) rest in
      sym (row_read (run_words bits ++ rest) (omega arith, few, runs_few, omega arith, ap (runs_fit 0 (length bits)) runs_there ∙ words_fit bits few))

  found-bits : run_bits_in (run_words bits ++ rest) ≡ bits
  found-bits = ap (λ ws. covered_bits ws (length bits)) runs_there ∙ bits_again bits few

-- a row that is read is the words of its bits
row_words : (ws : List ℕ) → IsRow ws → take (2 + get_or ws 1 0) ws ≡ run_words (run_bits_in ws)
row_words ws is =
    let long : length (runs_in ws) ≡ get_or ws 1 0 = omega (arith, length-take (get_or ws 1 0) (drop 2 ws), length-drop 2 ws, is.3) in
    cut (get_or ws 1 0) ws is.0
    ∙ ap (λ m. get_or ws 0 0 ∷ (m ∷ runs_in ws)) (sym long)
    ∙ sym (row_again (get_or ws 0 0) (runs_in ws) is.1 is.4)

pub takes : (ws : List ℕ) (r : Result ℕ BitsFault) → r ≡ run_read ws → TakesRow run_words run_bits_in ws r
takes ws = takes_row run_words run_bits_in run_read ws (λ n e. let f = row_facts ws n e in ap (λ m. take m ws) f.1 ∙ row_words ws f.0)

pub finds : (ws : List ℕ) (r : Result ℕ BitsFault) → r ≡ run_read ws → FindsRow HasBitRow run_words run_room ws r
finds = finds_row run_words run_bits_in run_read HasBitRow run_room (λ bits rest few. sym (found_row bits few rest))

pub tells : (ws : List ℕ) → ReadsRow HasBitRow run_words ws (run_bits_in ws)
tells ws items rest has e = ap run_bits_in e ∙ found-bits items has rest
