-- The blocks whose digest is the measurement of an enclave. (SDM volume 3D, ECREATE, EADD and EEXTEND, each "Operation".)
use Rattle.std.specs.Prelude.{◌≡◌, ℕ, List, length, ◌++◌, ◌+◌, ◌*◌, ◌^◌, ◌<◌, replicate, slice_range, codes}
use Rattle.std.specs.List.{flat_map, range_with_len, enumerate_from}
use Rattle.byteorder.specs.Endian.{little_bytes}

-- so many bytes of zero
abbrev pub zeros : ℕ → List ℕ
zeros n = replicate n 0

-- ECREATE: how many pages an SSA frame has, which is 1, and the size of the enclave
unfoldable pub create_block : ℕ → List ℕ
create_block size = codes "ECREATE" ++ zeros 1 ++ little_bytes 4 1 ++ little_bytes 8 size ++ zeros 44

-- EADD: the offset of a page, and its SECINFO of 48 bytes, which are the flags and zeros
unfoldable pub add_block : ℕ → ℕ → List ℕ
add_block offset secinfo = codes "EADD" ++ zeros 4 ++ little_bytes 8 offset ++ little_bytes 8 secinfo ++ zeros 40

-- EEXTEND: the offset of a chunk
unfoldable pub extend_block : ℕ → List ℕ
extend_block offset = codes "EEXTEND" ++ zeros 1 ++ little_bytes 8 offset ++ zeros 48

-- the chunk of 256 bytes with this number
abbrev pub chunk_at : ℕ → List ℕ → List ℕ
chunk_at j page = slice_range page (256 * j) (256 * j + 256)

-- a chunk of the page at this offset: its block, and its bytes
abbrev pub chunk_blocks : ℕ → List ℕ → ℕ → List ℕ
chunk_blocks offset page j = extend_block (offset + 256 * j) ++ chunk_at j page

-- a page at this offset with these flags: that it was added, and its sixteen chunks
abbrev pub page_blocks : ℕ → ℕ → List ℕ → List ℕ
page_blocks offset secinfo page = add_block offset secinfo ++ flat_map (chunk_blocks offset page) (range_with_len 0 16)

-- an enclave of this size, with the flags and the bytes of each of its pages, that of offset 0 first
abbrev pub blocks_of : ℕ → List (ℕ × List ℕ) → List ℕ
blocks_of size pages =
    create_block size ++ flat_map (λ p. page_blocks (4096 * p.0) p.1.0 p.1.1) (enumerate_from 0 pages)

-- flags that fit eight bytes, and all 4096 bytes of a page
abbrev pub IsWhole : ℕ × List ℕ → Type 0
IsWhole page = (page.0 < 2 ^ 64) × (length page.1 ≡ 4096)
