-- The limits of a connection (this product's own rules).
use Rattle.std.specs.Prelude.{ℕ}

-- The most bytes that may stand without an empty line (the refusal is RFC 6585, section 5). So a head is too large where
-- its first 16,385 bytes hold no whole empty line, whatever follows.
abbrev pub head_limit : ℕ
head_limit = 16384

-- the most reads for one request, and the most requests of a connection
abbrev pub read_limit : ℕ
read_limit = 65536

abbrev pub request_limit : ℕ
request_limit = 1000

-- the most lines of a head between its first line and the empty one, and so the most of its fields
abbrev pub field_limit : ℕ
field_limit = 64

-- the most bytes of a body
abbrev pub body_limit : ℕ
body_limit = 65536

-- How many bytes are held for a request at most, and the most of them that are still to be used when more are read: a
-- head with its empty line, and a body that is not whole.
abbrev pub unread_limit : ℕ
unread_limit = 81920

abbrev pub incoming_room : ℕ
incoming_room = 98304

-- for how many bytes each read has room at least
abbrev pub read_room : ℕ
read_room = 16384

-- how many bytes are held for the writer at most
abbrev pub outgoing_room : ℕ
outgoing_room = 65536

-- the most parts of a path of the table, and the most bytes of a name of any kind
abbrev pub part_limit : ℕ
part_limit = 3

abbrev pub name_limit : ℕ
name_limit = 250
