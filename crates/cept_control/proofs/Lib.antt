mod WorkedBytes
