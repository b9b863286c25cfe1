-- The line of a change is read back as the change and its author.
use Rattle.std.proofs.Common.{◌≡◌, ◌∙◌, ℕ, List, [], ◌∷◌, Option, Some, None, Result, Ok, refl}
use Rattle.serde_json.specs.Data.{Data, string}
use Rattle.af_names.specs.Names.{account_name_grammar, id_grammar}
use Rattle.af_role.specs.declared.access.AccessRow.{AccessRow}
use Rattle.af_role.specs.declared.pair_text.PairText.{PairText}
use Rattle.af_policy.specs.Rows.{UserRow}
use Rattle.af_policy.specs.declared.change.Change.{Change}
use Rattle.af_policy.specs.declared.change.Change.TheVariants.{AddRole, SetRole, DropRole, AddUser, SetUser, DropUser, SyncDag}
use Rattle.af_policy.specs.declared.change.RoleInput.{RoleInput}
use Rattle.af_store.specs.Bodies.{list_of, name_object, object_of, or_null}
use Rattle.af_store.specs.Members.{list_value, text_value, told_as}
use Rattle.af_store.specs.Names.{AreNames, IfThere, IsDigest, IsName}
use Rattle.af_store.specs.ChangeLines.{AreRows, IsChange, IsChangeLine, access_told, change_body, change_fields, digest_told, pair_told, roles_told, texts_told}
use Rattle.af_store.specs.ChangeReads.{access_read, change_in, change_of, pair_read, role_name}
use Rattle.af_store.specs.declared.change_line.ChangeLine.{ChangeLine}
use Rattle.af_store.specs.declared.line_fault.LineFault.{LineFault}
use Rattle.af_store.proofs.TextLemmas.{IsTold}
use Rattle.af_store.proofs.ReadLemmas.{AreRead, digest_of-IsDigest, items_told, list_value-list_of, name_of-IsName, read_body, told_as-told}

-- ---- what is told reads back as a value

or_null_told : {X : Type 0} (told : X → Data) (n : ℕ) → ((x : X) → IsTold n (told x)) → (o : Option X) → IsTold n (or_null told o)
or_null_told told n each None = tt
or_null_told told n each (Some x) = each x

pair_is_told : (pair : PairText) → IsTold 7 (pair_told pair)
pair_is_told pair = (refl, ((refl, (tt, tt)), ((refl, (tt, tt)), tt)))

access_is_told : (row : AccessRow) → IsTold 7 (access_told row)
access_is_told row = (refl, (items_told string 5 (λ _. tt) row.runs, (items_told string 5 (λ _. tt) row.actions, (tt, tt))))

roles_are_told : (names : List (List ℕ)) → IsTold 8 (roles_told names)
roles_are_told names = items_told name_object 7 (λ _. (refl, (tt, tt))) names

told : (by : List ℕ) (change : Change) → IsTold 9 (object_of (change_fields by change))
told by (AddRole input) = (refl, (items_told pair_told 7 pair_is_told input.actions, (tt, (tt, (tt, tt)))))
told by (SetRole input) = (refl, (items_told pair_told 7 pair_is_told input.actions, (tt, (tt, (tt, tt)))))
told by (DropRole name) = (refl, (tt, (tt, (tt, tt))))
told by (AddUser user) = (refl, (tt, (tt, (roles_are_told user.roles, (tt, (tt, tt))))))
told by (SetUser patch) =
    (refl, (tt, (tt, (or_null_told roles_told 8 roles_are_told patch.roles, (or_null_told digest_told 8 (λ _. tt) patch.digest, (tt, tt))))))
told by (DropUser name) = (refl, (tt, (tt, (tt, tt))))
told by (SyncDag access) =
    (refl, (or_null_told (list_of access_told) 8 (items_told access_told 7 access_is_told) access.access, (tt, (tt, (tt, tt)))))

-- ---- what is told is read back

all_read : {X : Type 0} (told : X → Data) (read_item : Data → Result X LineFault) → ((x : X) → read_item (told x) ≡ Ok x) → (xs : List X) → AreRead told read_item xs
all_read told read_item each [] = tt
all_read told read_item each (x ∷ xs) = (each x, all_read told read_item each xs)

pairs_read : (pairs : List PairText) → list_value pair_read (list_of pair_told pairs) ≡ Ok pairs
pairs_read pairs = list_value-list_of pair_told pair_read pairs (all_read pair_told pair_read (λ pair. refl) pairs)

texts_read : (texts : List (List ℕ)) → list_value text_value (texts_told texts) ≡ Ok texts
texts_read texts = list_value-list_of string text_value texts (all_read string text_value (λ text. refl) texts)

names_read : (names : List (List ℕ)) → AreNames account_name_grammar names → AreRead name_object role_name names
names_read [] h = tt
names_read (name ∷ names) h = (name_of-IsName account_name_grammar name h.0, names_read names h.1)

roles_read : (names : List (List ℕ)) → AreNames account_name_grammar names → list_value role_name (roles_told names) ≡ Ok names
roles_read names h = list_value-list_of name_object role_name names (names_read names h)

row_read : (row : AccessRow) → IsName account_name_grammar row.role → access_read (access_told row) ≡ Ok row
row_read row is = rw (name_of-IsName account_name_grammar row.role is, texts_read row.actions, texts_read row.runs)

rows_read : (rows : List AccessRow) → AreRows rows → AreRead access_told access_read rows
rows_read [] h = tt
rows_read (row ∷ rows) h = (row_read row h.0, rows_read rows h.1)

access_rows_read : (rows : List AccessRow) → AreRows rows → list_value access_read (list_of access_told rows) ≡ Ok rows
access_rows_read rows h = list_value-list_of access_told access_read rows (rows_read rows h)

-- ---- changes

module _ (by : List ℕ) (author : IsName account_name_grammar by) where
  -- what is read of the members that tell a change
  abbrev Reads : Change → Type 0
  Reads change = change_in (object_of (change_fields by change)) ≡ Ok (record { by = by; change = change })

  in_role : (input : RoleInput) → IsName account_name_grammar input.name → Reads (AddRole input)
  in_role input named = rw (name_of-IsName account_name_grammar by author, name_of-IsName account_name_grammar input.name named, pairs_read input.actions)

  in_role_set : (input : RoleInput) → IsName account_name_grammar input.name → Reads (SetRole input)
  in_role_set input named = rw (name_of-IsName account_name_grammar by author, name_of-IsName account_name_grammar input.name named, pairs_read input.actions)

  in_role_dropped : (name : List ℕ) → IsName account_name_grammar name → Reads (DropRole name)
  in_role_dropped name named = rw (name_of-IsName account_name_grammar by author, name_of-IsName account_name_grammar name named)

  in_user : (user : UserRow) → IsName account_name_grammar user.name → IsDigest user.digest → AreNames account_name_grammar user.roles → Reads (AddUser user)
  in_user user named digest roles =
      rw (name_of-IsName account_name_grammar by author, name_of-IsName account_name_grammar user.name named, digest_of-IsDigest user.digest digest, roles_read user.roles roles)

  module _ (name : List ℕ) (named : IsName account_name_grammar name) where
    in_patch : (digest : Option (List ℕ)) (roles : Option (List (List ℕ))) → IfThere IsDigest digest → IfThere (AreNames account_name_grammar) roles
        → Reads (SetUser (record { name = name; digest = digest; roles = roles }))
    in_patch None None d r = rw (name_of-IsName account_name_grammar by author, name_of-IsName account_name_grammar name named)
    in_patch None (Some roles) d r =
        rw (name_of-IsName account_name_grammar by author, name_of-IsName account_name_grammar name named, roles_read roles r)
    in_patch (Some digest) None d r =
        rw (name_of-IsName account_name_grammar by author, name_of-IsName account_name_grammar name named, digest_of-IsDigest digest d)
    in_patch (Some digest) (Some roles) d r =
        rw (name_of-IsName account_name_grammar by author, name_of-IsName account_name_grammar name named, digest_of-IsDigest digest d, roles_read roles r)

  in_user_dropped : (name : List ℕ) → IsName account_name_grammar name → Reads (DropUser name)
  in_user_dropped name named = rw (name_of-IsName account_name_grammar by author, name_of-IsName account_name_grammar name named)

  in_access : (dag : List ℕ) (access : Option (List AccessRow)) → IsName id_grammar dag → IfThere AreRows access
      → Reads (SyncDag (record { dag = dag; access = access }))
  in_access dag None named h = rw (name_of-IsName account_name_grammar by author, name_of-IsName id_grammar dag named)
  in_access dag (Some rows) named h =
      rw (name_of-IsName account_name_grammar by author, name_of-IsName id_grammar dag named, access_rows_read rows h)

  in_change : (change : Change) → IsChange change → Reads change
  in_change (AddRole input) h = in_role input h
  in_change (SetRole input) h = in_role_set input h
  in_change (DropRole name) h = in_role_dropped name h
  in_change (AddUser user) h = in_user user h.0 h.1 h.2
  in_change (SetUser patch) h = in_patch patch.name h.0 patch.digest patch.roles h.1 h.2
  in_change (DropUser name) h = in_user_dropped name h
  in_change (SyncDag access) h = in_access access.dag access.access h.0 h.1

pub change_in-change_fields : (line : ChangeLine) → IsChangeLine line → change_in (object_of (change_fields line.by line.change)) ≡ Ok line
change_in-change_fields line is = in_change line.by is.0 line.change is.1

pub change_of-change_body : (line : ChangeLine) → IsChangeLine line → change_of (change_body line) ≡ Ok line
change_of-change_body line is =
    read_body change_in (told_as change_body (change_body line)) (object_of (change_fields line.by line.change)) (told line.by line.change) line (change_in-change_fields line is)
    ∙ told_as-told change_body line
