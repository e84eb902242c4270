-- Lists by index, worked: the rows of a screen, the entries of the two colour tables, and the patterns of the codes.
use Rattle.std.proofs.Common.{◌≡◌, ◌+◌, ◌*◌, ◌==◌, cond, length, set, refl}
use Rattle.cept_codes.specs.Table.{list_by_index, entry}

-- 24 rows from 1
rows : entry 0 1 (list_by_index 1 24 (λ r. 10 * r)) 24 ≡ 240
unfolding list_by_index
rows = refl

rows_end : entry 7 1 (list_by_index 1 24 (λ r. 10 * r)) 25 ≡ 7
unfolding list_by_index
rows_end = refl

rows_above : entry 7 1 (list_by_index 1 24 (λ r. 10 * r)) 0 ≡ 7
unfolding list_by_index
rows_above = refl

-- 32 colour entries from 0
colours : entry 99 0 (list_by_index 0 32 (λ k. k + 100)) 31 ≡ 131
unfolding list_by_index
colours = refl

colours_end : entry 99 0 (list_by_index 0 32 (λ k. k + 100)) 32 ≡ 99
unfolding list_by_index
colours_end = refl

-- 4 entries of the DCLUT from 0
dclut : set (list_by_index 0 4 (λ k. k)) 3 24 ≡ list_by_index 0 4 (λ k. cond (k == 3) 24 k)
unfolding list_by_index
dclut = refl

-- the patterns of 94 codes from 21 hexadecimal
patterns : length (list_by_index 0x21 94 (λ k. k)) ≡ 94
unfolding list_by_index
patterns = refl

patterns_last : entry 0 0x21 (list_by_index 0x21 94 (λ k. k)) 0x7E ≡ 0x7E
unfolding list_by_index
patterns_last = refl

patterns_before : entry 0 0x21 (list_by_index 0x21 94 (λ k. k)) 0x20 ≡ 0
unfolding list_by_index
patterns_before = refl

patterns_end : entry 0 0x21 (list_by_index 0x21 94 (λ k. k)) 0x7F ≡ 0
unfolding list_by_index
patterns_end = refl
