mod RowParts
mod CodeRows
mod DataRows
mod LinkRows
mod AccountRows
